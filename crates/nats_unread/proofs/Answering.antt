-- A read, by what is seen at the front of the bytes.
use Rattle.std.proofs.Common.{◌≡◌, ◌≢◌, ℕ, ◌≤◌, arith, Bool, true, false, List, length, drop, Option, Some, None, Result, Ok, Err, refl, ap, sym, subst, ◌∙◌}
use Rattle.std.specs.Prelude.{IsTrue}
use Rattle.std.specs.Result.{IsErrAnd}
use Rattle.nats_message.specs.declared.op.ServerOp.{ServerOp}
use Rattle.nats_message.specs.declared.op.WireError.{WireError}
use Rattle.nats_message.specs.declared.op.WireError.TheVariants.{NoMemory, ReadFault}
use Rattle.nats_lines.specs.Operations.{Operation, OpText, Sight, less, whole, bad, sight, op_of, lost_at, got_or_fault, front_of_sight, Front, unfinished, got, fault, size_of, is_unfinished, is_whole, takes_memory, front, op_view, peeked_view}
use Rattle.nats_unread.specs.Kept.{Reads}
use Rattle.nats_lines.proofs.Fronts.{front_by_sight}
use Rattle.nats_lines.proofs.Seen.{less_seen, bad_seen, whole_takes}

reads_by : (found : Option Operation) (n lost : ℕ) (takes : Bool) (left : List ℕ) → IsTrue takes
    → Reads (got_or_fault n lost found) takes left (Err NoMemory) left
reads_by (Some op) n lost takes left is = refl
reads_by None n lost takes left is = (is, refl)

reads_seen : (seen : Sight) (left : List ℕ) → IsTrue (is_whole seen) → Reads (front_of_sight seen) (is_whole seen) left (Err NoMemory) left
reads_seen less left takes = cc
reads_seen (bad n) left takes = cc
reads_seen (whole text n) left takes = reads_by (op_of text) n (lost_at text n) true left takes

-- and so may a read, which takes nothing then
pub reads_without_memory : (bytes : List ℕ) (left : List ℕ) → IsTrue (takes_memory bytes)
    → Reads (front bytes) (takes_memory bytes) left (Err NoMemory) left
reads_without_memory bytes left takes = rw (front_by_sight bytes (sight bytes) refl) (reads_seen (sight bytes) left takes)

pub reads_less : (bytes seen new : List ℕ) → seen ≡ bytes → less ≡ sight seen → new ≡ seen
    → Reads (front bytes) (takes_memory bytes) bytes (Ok None) new
reads_less bytes seen new same sees is =
    subst (λ b. Reads (front b) (takes_memory b) b (Ok None) new) same
    (subst (λ f. Reads f (takes_memory seen) seen (Ok None) new) (less_seen seen sees) is)

pub reads_bad : (bytes seen new : List ℕ) (n : ℕ) → seen ≡ bytes → bad n ≡ sight seen → new ≡ drop n seen
    → Reads (front bytes) (takes_memory bytes) bytes (Err ReadFault) new
reads_bad bytes seen new n same sees is =
    subst (λ b. Reads (front b) (takes_memory b) b (Err ReadFault) new) same
    (subst (λ f. Reads f (takes_memory seen) seen (Err ReadFault) new) (bad_seen seen n sees) is)

pub reads_found : (bytes seen new : List ℕ) (text : OpText) (n : ℕ) (found : Front) (r : Result (Option ServerOp) WireError) → seen ≡ bytes
    → whole text n ≡ sight seen → found ≡ front seen → Reads found true seen r new → Reads (front bytes) (takes_memory bytes) bytes r new
reads_found bytes seen new text n found r same sees is reads =
    subst (λ b. Reads (front b) (takes_memory b) b r new) same
    (subst (λ t. Reads (front seen) t seen r new) (sym (whole_takes seen text n sees))
    (subst (λ f. Reads f true seen r new) is reads))

pub reads_refused : (bytes seen : List ℕ) (text : OpText) (n : ℕ) (r : Result (Option ServerOp) WireError) → seen ≡ bytes → whole text n ≡ sight seen
    → IsErrAnd r (λ e. e ≡ NoMemory) → Reads (front bytes) (takes_memory bytes) bytes r seen
reads_refused bytes seen text n (Ok op) same sees is = absurd is
reads_refused bytes seen text n (Err e) same sees is =
    subst (λ b. Reads (front b) (takes_memory b) b (Err e) seen) same
    (subst (λ refusal. Reads (front seen) (takes_memory seen) seen (Err refusal) seen) (sym is) (reads_without_memory seen seen (whole_takes seen text n sees)))

pub reads_wanting : (bytes seen : List ℕ) (r : Result (Option ServerOp) WireError) → seen ≡ bytes → IsTrue (takes_memory seen)
    → IsErrAnd r (λ e. e ≡ NoMemory) → Reads (front bytes) (takes_memory bytes) bytes r seen
reads_wanting bytes seen (Ok op) same takes is = absurd is
reads_wanting bytes seen (Err e) same takes is =
    subst (λ b. Reads (front b) (takes_memory b) b (Err e) seen) same
    (subst (λ refusal. Reads (front seen) (takes_memory seen) seen (Err refusal) seen) (sym is) (reads_without_memory seen seen takes))
