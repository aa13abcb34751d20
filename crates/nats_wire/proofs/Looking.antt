-- A look for which memory is wanting.
use Rattle.std.proofs.Common.{◌≡◌, ◌≢◌, ℕ, ◌≤◌, arith, Bool, true, false, List, length, drop, Option, Some, None, Result, Ok, Err, refl, ap, sym, subst, ◌∙◌}
use Rattle.std.specs.Prelude.{IsTrue}
use Rattle.nats_message.specs.declared.op.WireError.TheVariants.{NoMemory}
use Rattle.nats_lines.specs.Operations.{Operation, OpText, Sight, less, whole, bad, sight, op_of, lost_at, got_or_fault, front_of_sight, Front, unfinished, got, fault, size_of, is_unfinished, is_whole, takes_memory, front, op_view, peeked_view}
use Rattle.nats_wire.specs.Connection.{Looks}
use Rattle.nats_lines.proofs.Fronts.{front_by_sight}

looks_by : (found : Option Operation) (n lost : ℕ) (takes : Bool) → IsTrue takes → Looks (got_or_fault n lost found) takes (Err NoMemory)
looks_by (Some op) n lost takes is = tt
looks_by None n lost takes is = is

looks_seen : (seen : Sight) → IsTrue (is_whole seen) → Looks (front_of_sight seen) (is_whole seen) (Err NoMemory)
looks_seen less takes = cc
looks_seen (bad n) takes = cc
looks_seen (whole text n) takes = looks_by (op_of text) n (lost_at text n) true takes

-- where memory is taken, a look may find none
pub looks_without_memory : (bytes : List ℕ) → IsTrue (takes_memory bytes) → Looks (front bytes) (takes_memory bytes) (Err NoMemory)
looks_without_memory bytes takes = rw (front_by_sight bytes (sight bytes) refl) (looks_seen (sight bytes) takes)
