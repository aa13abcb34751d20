-- What receiving comes to is printed.
use Rattle.std.proofs.Common.{inl, inr, arith}
use Rattle.nats_replay.proofs.Lived.{not_wanting, sub_refused}
use Rattle.nats_replay.proofs.live.answer_sub.Goals as goal

pub returns-in-Ok-clause-answers : goal.returns-in-Ok-clause-answers
returns-in-Ok-clause-answers g c = inr (inl (
  c.in-Ok.text.items,
  c.in-Ok.ensures.received,
  rw c.as_slice.ensures.value at c.print.ensures,
))

pub returns-in-Ok-clause-silent : goal.returns-in-Ok-clause-silent
returns-in-Ok-clause-silent g c =
    not_wanting 0 c.print.result c.as_slice.result.now (g.K.Sink.faults c.args.sink.now)
    (g.K.Sink.faults c.print.new.sink)
    (g.K.Sink.written c.args.sink.now) (g.K.Sink.written c.print.new.sink) (λ is. absurd (omega (arith, is)))
    c.print.ensures

pub returns-in-Err-clause-answers : goal.returns-in-Err-clause-answers
returns-in-Err-clause-answers g c =
    sub_refused c.args.addr.now c.args.subject.now c.args.count (g.W.Reach.seen c.args.world.now)
    (g.W.Reach.seen c.receive.new.world)
    c.in-Err.error c.refuse.result (g.K.Sink.faults c.args.sink.now) (g.K.Sink.faults c.refuse.new.sink)
    (g.K.Sink.written c.args.sink.now) (g.K.Sink.written c.refuse.new.sink)
    c.in-Err.ensures.refused c.refuse.ensures.answers
