-- The steps that were due come first, and then the turn.
use Rattle.nats_mesh.proofs.Playing.{plays_by, plays_wanting}
use Rattle.nats_mesh.proofs.cores.play.Goals as goal

pub returns : goal.returns
returns c =
    plays_by c.args.core.now c.catch_up.new.self c.step-step.new.self c.args.turn c.step-step.result c.played.result
    c.in_ok-catch_up.ensures.plays c.in_ok-catch_up.ensures.ok c.handler-session.ensures.whole c.step-step.ensures.steps c.step-step.ensures.journal
    c.played.ensures

pub returns-in_err-catch_up : goal.returns-in_err-catch_up
returns-in_err-catch_up c =
    plays_wanting c.args.core.now c.catch_up.new.self c.args.turn c.from_residual.result c.from_residual.ensures.0
    c.in_err-catch_up.ensures.plays
