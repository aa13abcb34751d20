-- A take that was played gives the oldest message that waits.
use Rattle.nats_history.specs.declared.turn.Turn.TheVariants as turns
use Rattle.nats_core.specs.Calls.{parts_in}
use Rattle.nats_live.specs.Flow.{TakesOne}
use Rattle.nats_live.specs.Steps.{step_refused}
use Rattle.nats_live.proofs.Posting.{refused_play}
use Rattle.nats_live.proofs.Rounds.{take_comes, took_one}
use Rattle.nats_live.proofs.Wants.{err_by}
use Rattle.nats_live.proofs.receiving.take_one.Goals as goal

pub returns-in_err-reply : goal.returns-in_err-reply
returns-in_err-reply c = λ subject joined took first since taken receives.
    err_by (λ r. TakesOne subject joined first since took taken (parts_in c.args.core.now).link.is_up r
    c.play.new.core.session)
    (step_refused c.in_err-reply.field-0.0) c.from_residual.result c.from_residual.ensures.0 c.from_residual.ensures.1
    (refused_play c.args.core.now c.play.new.core (turns.Take 1) c.in_err-reply.field-0.0
    (take_comes subject joined first since took taken c.args.core.now receives) c.in_err-reply.ensures)

pub returns : goal.returns
returns c = λ subject joined took first since taken receives.
    rw c.message_in.ensures
    (took_one subject joined first since took taken c.args.core.now c.play.new.core c.in_ok-reply.reply
    receives c.in_ok-reply.ensures)
