-- No bytes are left.
use Rattle.nats_broker_text.proofs.Fronts.{cleared}
use Rattle.nats_broker_text.proofs.unread.Unread.clear.Goals as goal

pub invariant_of-self : goal.invariant_of-self
invariant_of-self c = cleared c.self.inside.buf c.advance.new.self c.len.result c.advance.ensures c.len.ensures.value
