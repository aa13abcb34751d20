-- What came was looked at.
use Rattle.std.proofs.Common.{arith}
use Rattle.nats_broker_text.proofs.Fronts.{looked_on_so}
use Rattle.nats_broker_text.proofs.unread.Unread.feed.Goals as goal

pub invariant_of-self-2 : goal.invariant_of-self-2
invariant_of-self-2 c = looked_on_so c.self.inside.ended c.self.inside.ready c.has_line_from-ended.result c.is_ready_where-ready.result
    c.self.inside.buf c.args.bytes.now c.feed.new.self c.as_slice.result.now c.as_slice-2.result.now c.saturating_sub-from.result
    (omega (arith, c.saturating_sub-from.ensures, c.len.ensures.value)) c.self.invariant c.in_ok-feed.ensures.ok
    c.has_line_from-ended.ensures c.as_slice.ensures c.is_ready_where-ready.ensures c.as_slice-2.ensures
