-- The answers of a service, in order.
use Rattle.std.specs.Borrow.{Bor}
use Rattle.std.specs.Fn.{Mut}
use Rattle.std.proofs.Common.{◌≡◌, ℕ, Bool, true, false, cond, List, [], ◌∷◌, ◌++◌, Option, Some, None, Result, refl, sym, ◌∙◌, ap, append_assoc}
use Rattle.nats_names.specs.declared.failed.NoMemory.{NoMemory}
use Rattle.nats_message.specs.declared.message.Message.{Message}
use Rattle.nats_history.specs.declared.call.CallReply.{CallReply}
use Rattle.nats_core.specs.Journal.{Logged}
use Rattle.nats_rpc.specs.declared.answering.Kept.{Kept}
use Rattle.nats_rpc.specs.declared.answering.Served.{Served}
use Rattle.nats_rpc.specs.Serving.{Serving, is_done, kept_after, Event, SendsAnswer, submits, wants, ServesAs, again, answers, tells, untaken}
use Rattle.nats_rpc_laws.specs.Services.{ServiceRun, opens, serves, one_of, answers_in, told_if, told_in, AnswersInOrder}

-- an answer that is submitted is done with, or kept
kept_or_done : (reply : CallReply) (kept : Kept)
    → told_if is_done (Some (kept, reply)) ++ one_of (kept_after reply kept) ≡ kept ∷ []
kept_or_done reply kept = by (is_done reply)
  where
    by : (done : Bool) → cond done (kept ∷ []) [] ++ one_of (cond done None (Some kept)) ≡ kept ∷ []
    by true = refl
    by false = refl

sends_settle : (kept : Kept) (old : Logged) (told : Option (Kept × CallReply)) (result : Result Served NoMemory)
    (new : Logged) (kept' : Option Kept) → SendsAnswer kept old told result new kept'
    → told_if is_done told ++ one_of kept' ≡ kept ∷ []
sends_settle kept old told result new kept' (submits reply is submitted told_so kept_so) =
    ap (λ (t : Option (Kept × CallReply)). told_if is_done t ++ one_of kept') is
    ∙ ap (λ (k : Option Kept). told_if is_done (Some (kept, reply)) ++ one_of k) kept_so
    ∙ kept_or_done reply kept
sends_settle kept old told result new kept' (wants is due told_so kept_so) =
    ap (λ (t : Option (Kept × CallReply)). told_if is_done t ++ one_of kept') is ∙ ap one_of kept_so

-- what was kept before with what was asked for is what is done with and kept after
one_more : {F V : Type 0} (g : Mut F (Bor Message × Unit {0}) V) (items : V → List ℕ) (event : Event)
    (before : Serving F) (old : Logged) (result : Result Served NoMemory) (after : Serving F) (new : Logged)
    → ServesAs g items event before old result after new
    → one_of before.kept ++ one_of event.asked ≡ told_if is_done event.told ++ one_of after.kept
one_more g items event before old result after new (again kept was unasked sends number answer) =
    ap (λ (k : Option Kept). one_of k ++ one_of event.asked) was
    ∙ ap (λ (a : Option Kept). kept ∷ one_of a) unasked
    ∙ sym (sends_settle kept old event.told result new after.kept sends)
one_more g items event before old result after new (answers kept mid was taken asked sends number) =
    ap (λ (k : Option Kept). one_of k ++ one_of event.asked) was ∙ ap one_of asked
    ∙ sym (sends_settle kept mid event.told result new after.kept sends)
one_more g items event before old result after new (tells told was taken unasked untold is none number) =
    ap (λ (k : Option Kept). one_of k ++ one_of event.asked) was ∙ ap one_of unasked
    ∙ sym (ap (λ (t : Option (Kept × CallReply)). told_if is_done t ++ one_of after.kept) untold ∙ ap one_of none)
one_more g items event before old result after new (untaken was taken unasked untold is same) =
    ap (λ (k : Option Kept). one_of k ++ one_of event.asked) was ∙ ap one_of unasked
    ∙ sym (ap (λ (t : Option (Kept × CallReply)). told_if is_done t ++ one_of after.kept) untold
    ∙ ap (λ (s : Serving _). one_of s.kept) same ∙ ap one_of was)

joined : (given settled asked told before after : List Kept) → given ≡ settled ++ before
    → before ++ asked ≡ told ++ after → given ++ asked ≡ (settled ++ told) ++ after
joined given settled asked told before after is next =
    ap (λ xs. xs ++ asked) is ∙ append_assoc settled before asked ∙ ap (λ xs. settled ++ xs) next
    ∙ sym (append_assoc settled told after)

in_order : {F V : Type 0} (g : Mut F (Bor Message × Unit {0}) V) (items : V → List ℕ) (events : List Event)
    (service : Serving F) → ServiceRun g items events service
    → answers_in events ≡ told_in is_done events ++ one_of service.kept
in_order g items events service (opens number answer) = refl
in_order g items events service (serves earlier event before after old new result run served) =
    joined (answers_in earlier) (told_in is_done earlier) (one_of event.asked) (told_if is_done event.told)
    (one_of before.kept) (one_of after.kept) (in_order g items earlier before run)
    (one_more g items event before old result after new served)

pub answers_in_order : {F V : Type 0} (g : Mut F (Bor Message × Unit {0}) V) (items : V → List ℕ)
    → AnswersInOrder g items
answers_in_order g items events service run = in_order g items events service run
