-- A refusal that a text tells of is printed.
use Rattle.std.proofs.Common.{◌∙◌, arith, sym}
use Rattle.nats_replay.proofs.Lived.{not_wanting, refusal_told}
use Rattle.nats_replay.proofs.live.refuse.Goals as goal

pub returns-in-Ok-clause-answers : goal.returns-in-Ok-clause-answers
returns-in-Ok-clause-answers g c =
    refusal_told c.args.error.now c.print.result (g.K.Sink.faults c.args.sink.now) (g.K.Sink.faults c.print.new.sink)
    c.as_bytes.result.now (g.K.Sink.written c.args.sink.now) (g.K.Sink.written c.print.new.sink)
    (sym c.is_told.ensures ∙ c.if-not-is_told.false) (c.as_bytes.ensures.value ∙ c.in-Ok.ensures) c.print.ensures

pub returns-in-Ok-clause-silent : goal.returns-in-Ok-clause-silent
returns-in-Ok-clause-silent g c =
    not_wanting 9 c.print.result c.as_bytes.result.now (g.K.Sink.faults c.args.sink.now)
    (g.K.Sink.faults c.print.new.sink)
    (g.K.Sink.written c.args.sink.now) (g.K.Sink.written c.print.new.sink) (λ is. absurd (omega (arith, is)))
    c.print.ensures
