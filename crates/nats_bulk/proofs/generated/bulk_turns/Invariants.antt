-- the opening and the turns of the numbers so far
use Rattle.std.proofs.Common.{◌≡◌}
use Rattle.nats_bulk.specs.Generated.{generated}
use Rattle.nats_bulk.proofs.generated.bulk_turns.Given as goal

abbrev pub invariant-loop-k : goal.invariant-loop-k
invariant-loop-k l = l.turns.items ≡ generated l.k
