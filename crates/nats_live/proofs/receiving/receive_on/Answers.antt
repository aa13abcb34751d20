-- A subscription is received on, unless the link is over already.
use Rattle.std.proofs.Common.{sym, ◌∙◌, ap, true}
use Rattle.nats_session.specs.Handler.{Seen}
use Rattle.nats_lines.specs.Operations.{operations}
use Rattle.nats_live.specs.Flow.{ReceivesAll}
use Rattle.nats_live.proofs.Ends.{receives_all, receives_over, subscribes_err}
use Rattle.nats_live.proofs.Wants.{err_by}
use Rattle.nats_live.proofs.receiving.receive_on.Goals as goal

pub returns : goal.returns
returns g c = λ most joined head b took.
    receives_all joined head c.args.subject.now c.args.count c.receive_all.new.core.session
    (g.L.LinkRead.read_told c.args.read.now) (g.L.LinkRead.read_told c.receive_all.new.read)
    (g.T.LinkWrite.write_told c.receive_all.new.write)
    c.receive_all.result
    (c.receive_all.ensures c.args.subject.now joined head (operations joined)
    ((c.in_ok-subscribe.ensures most joined b).1
    (sym (c.in_ok-subscribe.ensures most joined b).0 ∙ (sym (c.is_up.ensures ∙ ap (λ (s : Seen). s.parts.link.is_up) c.handler.ensures.session) ∙ c.if-not-is_up.false)))
    (sym (c.is_up.ensures ∙ ap (λ (s : Seen). s.parts.link.is_up) c.handler.ensures.session) ∙ c.if-not-is_up.false) took)

pub returns-then-not-is_up : goal.returns-then-not-is_up
returns-then-not-is_up g c = λ most joined head b took.
    receives_over most joined head c.args.subject.now c.args.count c.args.core.now.session c.subscribe.new.core.session
    (g.L.LinkRead.read_told c.args.read.now) (g.T.LinkWrite.write_told c.args.write.now) b
    (sym (c.in_ok-subscribe.ensures most joined b).0 ∙ (sym (c.is_up.ensures ∙ ap (λ (s : Seen). s.parts.link.is_up) c.handler.ensures.session) ∙ c.if-not-is_up.true))

pub returns-in_err-subscribe : goal.returns-in_err-subscribe
returns-in_err-subscribe g c = λ most joined head b took.
    err_by (λ r. ReceivesAll joined head c.args.subject.now c.args.count r c.subscribe.new.core.session
    (g.L.LinkRead.read_told c.args.read.now) (g.L.LinkRead.read_told c.args.read.now)
    (g.T.LinkWrite.write_told c.args.write.now))
    c.in_err-subscribe.field-0.0 c.from_residual-in_err-subscribe.result c.from_residual-in_err-subscribe.ensures.0
    c.from_residual-in_err-subscribe.ensures.1
    (subscribes_err joined head c.args.subject.now c.args.count c.args.core.now.session c.subscribe.new.core.session
    c.subscribe.new.core.session (g.L.LinkRead.read_told c.args.read.now)
    (g.L.LinkRead.read_told c.args.read.now) (g.T.LinkWrite.write_told c.args.write.now)
    c.in_err-subscribe.field-0.0 (c.in_err-subscribe.ensures most joined b))
