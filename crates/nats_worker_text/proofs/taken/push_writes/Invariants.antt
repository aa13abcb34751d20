-- so many writes of those, no more than asked for
use Rattle.std.proofs.Common.{◌≡◌, ◌++◌, ◌-◌, ◌≤◌}
use Rattle.nats_worker_text.specs.Taken.{writes}
use Rattle.nats_worker_text.proofs.taken.push_writes.Given as goal

abbrev pub invariant-writes : goal.invariant-writes
invariant-writes l = (l.turns.items ≡ l.initial.turns.items ++ writes l.done) × (l.done ≤ l.count)

abbrev pub decreases-writes : goal.decreases-writes
decreases-writes l = l.count - l.done
