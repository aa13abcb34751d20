-- waiting counts nothing
use Rattle.std.proofs.Common.{◌≡◌}
use Rattle.nats_system.proofs.thread_spawner.ThreadSpawner.join_all.Given as goal

abbrev pub invariant-threads : goal.invariant-threads
invariant-threads g l = l.self.faults ≡ l.initial.self.faults

abbrev pub decreases-threads : goal.decreases-threads
decreases-threads g l = goal.left-threads g l
