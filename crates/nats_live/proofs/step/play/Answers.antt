-- A turn that was played is played with all that it made due.
use Rattle.nats_live.proofs.Stepping.{plays_ok, plays_err}
use Rattle.nats_live.proofs.step.play.Goals as goal

pub returns-in-Ok-catch_up : goal.returns-in-Ok-catch_up
returns-in-Ok-catch_up c =
    plays_ok c.args.core.now c.step.new.self c.catch_up.new.self c.args.turn c.in-Ok.reply c.in-Ok.ensures.steps
    c.in-Ok-catch_up.ensures.ok

pub returns-in-Err : goal.returns-in-Err
returns-in-Err c = plays_err c.args.core.now c.step.new.self c.args.turn c.in-Err.error c.in-Err.ensures.steps
