-- What is left was looked at anew.
use Rattle.nats_broker_text.proofs.Fronts.{looked_so}
use Rattle.nats_broker_text.proofs.unread.Unread.take.Goals as goal

pub invariant_of-self : goal.invariant_of-self
invariant_of-self c = looked_so c.has_line-ended.result c.is_ready_where-ready.result c.advance.new.self c.as_slice.result.now c.as_slice-2.result.now
    c.has_line-ended.ensures c.as_slice.ensures c.is_ready_where-ready.ensures c.as_slice-2.ensures
