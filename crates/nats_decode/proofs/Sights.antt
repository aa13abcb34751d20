-- What stands at the front of a text, by what the decoder sees there.
use Rattle.std.proofs.Common.{◌≡◌, ◌≢◌, ℕ, ◌≤◌, arith, Bool, true, false, List, length, drop, Option, Some, None, Result, Ok, Err, refl, ap, sym, subst, ◌∙◌}
use Rattle.std.specs.Prelude.{IfOk}
use Rattle.nats_decode.specs.declared.decode.Sight as code
use Rattle.nats_decode.specs.declared.decode.Sight.TheVariants as sees
use Rattle.nats_decode.specs.declared.front.Front as code_front
use Rattle.nats_decode.specs.declared.front.Front.TheVariants as fronts
use Rattle.nats_lines.specs.Operations.{Operation, OpText, Sight, less, whole, bad, sight, op_of, lost_at, got_or_fault, front_of_sight, Front, unfinished, got, fault, size_of, is_unfinished, is_whole, takes_memory, front, op_view, peeked_view}
use Rattle.nats_decode.specs.Decoder.{sight_view, front_view, taken_by}
use Rattle.nats_lines.proofs.Fronts.{front_by_sight}
use Rattle.nats_lines.proofs.Seen.{bad_seen, got_fits, lost_fits, got_or_fault_is}

-- what isn't seen as less isn't unfinished
pub not_less : (seen : code.Sight) (bytes : List ℕ) → sight_view seen ≡ sight bytes → seen ≢ sees.Unfinished
    → false ≡ is_unfinished (front bytes)
not_less sees.Unfinished bytes is never = absurd (never refl)
not_less (sees.Whole text n) bytes is never =
    sym (ap is_unfinished (front_by_sight bytes (sight_view (sees.Whole text n)) is) ∙ got_or_fault_is n _ _)
not_less (sees.Fault n) bytes is never = ap is_unfinished (bad_seen bytes n is)

-- what is there takes no more bytes than are there
pub view_fits : (bytes : List ℕ) (f : code_front.Front) → front_view f ≡ front bytes → taken_by f ≤ length bytes
view_fits bytes fronts.Unfinished is = omega arith
view_fits bytes (fronts.Got op n) is = got_fits bytes n (peeked_view op) is
view_fits bytes (fronts.Fault n) is = lost_fits bytes n is

-- what is told by what is seen is told of the text
pub ok_by_sight : {E : Type 0} (bytes : List ℕ) (seen : Sight) (r : Result code_front.Front E) → seen ≡ sight bytes
    → IfOk r (λ f. front_view f ≡ front_of_sight seen) → IfOk r (λ f. front_view f ≡ front bytes)
ok_by_sight bytes seen (Ok f) sees is = is ∙ sym (front_by_sight bytes seen sees)
ok_by_sight bytes seen (Err e) sees is = is

pub ok_fits : {E : Type 0} (bytes : List ℕ) (r : Result code_front.Front E)
    → IfOk r (λ f. front_view f ≡ front bytes) → IfOk r (λ f. taken_by f ≤ length bytes)
ok_fits bytes (Ok f) is = view_fits bytes f is
ok_fits bytes (Err e) is = is
