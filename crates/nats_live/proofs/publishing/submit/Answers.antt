-- Both calls are accepted, or the first is refused.
use Rattle.std.proofs.Common.{refl, sym, subst, ℕ, Result, Err}
use Rattle.nats_history.specs.declared.call.Call.TheVariants as call
use Rattle.nats_history.specs.declared.turn.Turn.TheVariants as turns
use Rattle.nats_live.specs.declared.error.LiveError.{LiveError}
use Rattle.nats_live.specs.declared.error.LiveError.TheVariants as refused
use Rattle.nats_live.specs.Flow.{Accepts}
use Rattle.nats_live.specs.Steps.{step_refused}
use Rattle.nats_live.proofs.Posting.{flushed_by, posted_by, posted_ok, refused_play}
use Rattle.nats_live.proofs.Wants.{err_by}
use Rattle.nats_live.proofs.publishing.submit.Goals as goal

pub returns-in_err-message : goal.returns-in_err-message
returns-in_err-message c = λ most joined b.
    err_by (λ r. Accepts most joined c.args.subject.now c.args.payload.now r c.args.core.now.session
    c.args.core.now.session)
    refused.NoMemory c.from_residual.result c.from_residual.ensures.0 c.from_residual.ensures.1 tt

pub returns-in_err-reply : goal.returns-in_err-reply
returns-in_err-reply c = λ most joined b.
    let F : Result ℕ LiveError → Type 0 = λ r. Accepts most joined c.args.subject.now c.args.payload.now r c.args.core.now.session
    c.play.new.core.session in
    err_by F (step_refused c.in_err-reply.field-0.0) c.from_residual-in_err-reply.result
    c.from_residual-in_err-reply.ensures.0 c.from_residual-in_err-reply.ensures.1
    (subst (λ (e : LiveError). F (Err e))
    (sym (refused_play c.args.core.now c.play.new.core (turns.Do (call.Publish c.in_ok-message.message))
    c.in_err-reply.field-0.0 refl
    c.in_err-reply.ensures)) tt)

pub returns-in_err-publish_answer : goal.returns-in_err-publish_answer
returns-in_err-publish_answer c = λ most joined b.
    let posts = posted_by most joined c.args.subject.now c.args.payload.now c.args.core.now c.play.new.core
    c.in_ok-message.message
    c.in_ok-reply.reply b c.in_ok-message.ensures c.in_ok-reply.ensures in
    err_by (λ r. Accepts most joined c.args.subject.now c.args.payload.now r c.args.core.now.session
    c.play.new.core.session)
    c.in_err-publish_answer.field-0.0 c.from_residual-in_err-publish_answer.result
    c.from_residual-in_err-publish_answer.ensures.0 c.from_residual-in_err-publish_answer.ensures.1
    (rw (sym c.in_err-publish_answer.ensures) at posts)

pub returns-in_err-reply-2 : goal.returns-in_err-reply-2
returns-in_err-reply-2 c = λ most joined b.
    let F : Result ℕ LiveError → Type 0 = λ r. Accepts most joined c.args.subject.now c.args.payload.now r c.args.core.now.session
    c.play-2.new.core.session in
    err_by F (step_refused c.in_err-reply-2.field-0.0) c.from_residual-in_err-reply-2.result
    c.from_residual-in_err-reply-2.ensures.0 c.from_residual-in_err-reply-2.ensures.1
    (subst (λ (e : LiveError). F (Err e))
    (sym (refused_play c.play.new.core c.play-2.new.core (turns.Do call.Flush)
    c.in_err-reply-2.field-0.0 refl
    c.in_err-reply-2.ensures)) tt)

pub returns : goal.returns
returns c = λ most joined b.
    let posts = posted_by most joined c.args.subject.now c.args.payload.now c.args.core.now c.play.new.core
    c.in_ok-message.message
    c.in_ok-reply.reply b c.in_ok-message.ensures c.in_ok-reply.ensures in
    let ok = posted_ok most joined c.args.subject.now c.args.payload.now c.args.core.now.session
    c.play.new.core.session _
    (sym c.in_ok-publish_answer.ensures) posts in
    rw c.ticket_of.ensures
    (flushed_by most joined c.args.subject.now c.args.payload.now c.args.core.now.session c.play.new.core
    c.play-2.new.core c.in_ok-reply-2.reply ok c.in_ok-reply-2.ensures)
