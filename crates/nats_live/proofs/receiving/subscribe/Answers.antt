-- A subscribe that was played is accepted, or refused.
use Rattle.std.proofs.Common.{refl, sym, subst, Result, Err, None}
use Rattle.nats_history.specs.declared.call.Call.TheVariants as call
use Rattle.nats_history.specs.declared.turn.Turn.TheVariants as turns
use Rattle.nats_live.specs.declared.error.LiveError.{LiveError}
use Rattle.nats_live.specs.declared.error.LiveError.TheVariants as refused
use Rattle.nats_live.specs.Flow.{Subscribes}
use Rattle.nats_live.specs.Steps.{step_refused}
use Rattle.nats_live.proofs.Posting.{refused_play}
use Rattle.nats_live.proofs.Rounds.{subscribed_by}
use Rattle.nats_live.proofs.Wants.{err_by}
use Rattle.nats_live.proofs.receiving.subscribe.Goals as goal

pub returns-in_err-from_text : goal.returns-in_err-from_text
returns-in_err-from_text c = λ most joined b.
    err_by (λ r. Subscribes joined c.args.subject.now r c.args.core.now.session c.args.core.now.session)
    refused.NoMemory c.from_residual.result c.from_residual.ensures.0 c.from_residual.ensures.1 tt

pub returns-in_err-reply : goal.returns-in_err-reply
returns-in_err-reply c = λ most joined b.
    let F : Result (Unit {0}) LiveError → Type 0 = λ r. Subscribes joined c.args.subject.now r c.args.core.now.session c.play.new.core.session in
    err_by F (step_refused c.in_err-reply.field-0.0) c.from_residual-in_err-reply.result
    c.from_residual-in_err-reply.ensures.0 c.from_residual-in_err-reply.ensures.1
    (subst (λ (e : LiveError). F (Err e))
    (sym (refused_play c.args.core.now c.play.new.core
    (turns.Do (call.Subscribe c.in_ok-from_text.field-0 None))
    c.in_err-reply.field-0.0 refl c.in_err-reply.ensures)) tt)

pub returns : goal.returns
returns c = λ most joined b.
    rw c.subscribe_answer.ensures (subscribed_by most joined c.args.subject.now c.args.core.now c.play.new.core
    c.in_ok-from_text.field-0 c.in_ok-reply.reply b c.in_ok-from_text.ensures c.in_ok-reply.ensures)
