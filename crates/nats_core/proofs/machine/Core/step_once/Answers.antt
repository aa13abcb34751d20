-- The steps that were due come first.
use Rattle.nats_core.proofs.Cores.{none_caught_up, steps_by, steps_wanting}
use Rattle.nats_core.proofs.machine.Core.step_once.Goals as goal

pub play-requires : goal.play-requires
play-requires c = none_caught_up c.args.self.now c.catch_up.new.self c.in_ok-catch_up.ensures.ok

pub returns : goal.returns
returns c =
    steps_by c.args.self.now c.catch_up.new.self c.play.new.self c.args.turn c.play.result c.in_ok-catch_up.ensures.plays c.in_ok-catch_up.ensures.ok c.play.ensures

pub returns-in_err-catch_up : goal.returns-in_err-catch_up
returns-in_err-catch_up c =
    steps_wanting c.args.self.now c.catch_up.new.self c.args.turn c.from_residual.result c.from_residual.ensures c.in_err-catch_up.ensures.plays c.in_err-catch_up.ensures.behind
