use Rattle.std.proofs.Common.{◌-◌, ◌≤◌}
use Rattle.nats_seat_workers.specs.Publishing.{HasWorked}
use Rattle.nats_seat_workers.proofs.publishing.publish_all.Given as goal

abbrev pub invariant-publishes : goal.invariant-publishes
invariant-publishes g l = HasWorked l.worker l.done l.fn.seat l.seat × (l.done ≤ l.count)

abbrev pub decreases-publishes : goal.decreases-publishes
decreases-publishes g l = l.count - l.done
