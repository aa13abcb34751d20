-- What was accepted is flushed.
use Rattle.std.proofs.Common.{sym, subst, [], List, ℕ, append-nil}
use Rattle.nats_dial.specs.Lines.{Took}
use Rattle.nats_live.specs.Flow.{Publishes, published_text}
use Rattle.nats_live.proofs.Ends.{publishes_err, publishes_ok}
use Rattle.nats_live.proofs.Wants.{err_by}
use Rattle.nats_live.proofs.publishing.publish_on.Goals as goal

pub returns-in_err-ticket : goal.returns-in_err-ticket
returns-in_err-ticket g c = λ most joined head b took.
    err_by (λ r. Publishes most joined head c.args.subject.now c.args.payload.now r c.args.core.now.session
    (g.T.LinkWrite.write_told c.args.write.now))
    c.in_err-ticket.field-0.0 c.from_residual.result c.from_residual.ensures.0 c.from_residual.ensures.1
    (publishes_err most joined head c.args.subject.now c.args.payload.now c.args.core.now.session
    c.submit.new.core.session
    (g.T.LinkWrite.write_told c.args.write.now) c.in_err-ticket.field-0.0 (c.in_err-ticket.ensures most joined b))

pub returns : goal.returns
returns g c = λ most joined head b took.
    let accepted = c.in_ok-ticket.ensures most joined b in
    publishes_ok most joined head c.args.subject.now c.args.payload.now c.args.core.now.session
    c.submit.new.core.session
    (g.T.LinkWrite.write_told c.flush.new.write) c.in_ok-ticket.ticket c.flush.result accepted
    (c.flush.ensures (published_text joined c.args.subject.now c.args.payload.now) [] head accepted.0 accepted.1
    (subst (λ (t : List ℕ). Took t (g.T.LinkWrite.write_told c.args.write.now)) (sym (append-nil head)) took))
