-- What publishing comes to is printed.
use Rattle.std.proofs.Common.{inl, inr, arith}
use Rattle.nats_replay.specs.Live.{published_line}
use Rattle.nats_replay.proofs.Lived.{not_wanting, pub_refused}
use Rattle.nats_replay.proofs.live.answer_pub.Goals as goal

pub returns-in-Ok-clause-answers : goal.returns-in-Ok-clause-answers
returns-in-Ok-clause-answers g c = inr (inl (rw c.as_bytes.ensures.value at c.in-Ok.ensures.published, c.print.ensures))

pub returns-in-Ok-clause-silent : goal.returns-in-Ok-clause-silent
returns-in-Ok-clause-silent g c =
    not_wanting 0 c.print.result published_line (g.K.Sink.faults c.args.sink.now) (g.K.Sink.faults c.print.new.sink)
    (g.K.Sink.written c.args.sink.now) (g.K.Sink.written c.print.new.sink) (λ is. absurd (omega (arith, is)))
    c.print.ensures

pub returns-in-Err-clause-answers : goal.returns-in-Err-clause-answers
returns-in-Err-clause-answers g c =
    pub_refused c.args.addr.now c.args.subject.now c.args.payload.now (g.W.Reach.seen c.args.world.now)
    (g.W.Reach.seen c.publish.new.world)
    c.in-Err.error c.refuse.result (g.K.Sink.faults c.args.sink.now) (g.K.Sink.faults c.refuse.new.sink)
    (g.K.Sink.written c.args.sink.now) (g.K.Sink.written c.refuse.new.sink)
    (rw c.as_bytes.ensures.value at c.in-Err.ensures.refused) c.refuse.ensures.answers
