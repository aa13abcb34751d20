-- what is left to do leads to the same
use Rattle.std.proofs.Common.{◌≡◌}
use Rattle.nats_broker.specs.Playing.{due, settled_by, settled}
use Rattle.nats_broker.proofs.broker.Broker.settle.Given as goal

abbrev pub invariant-due : goal.invariant-due
invariant-due l = settled_by l.left (due l.self) l.self ≡ settled l.fn.self

abbrev pub decreases-due : goal.decreases-due
decreases-due l = l.left
