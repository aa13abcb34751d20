-- The steps that were due come first, and then the look at the link.
use Rattle.nats_core.proofs.Cores.{none_caught_up, steps_on_by, steps_on_wanting}
use Rattle.nats_core.proofs.machine.Core.step_once_on.Goals as goal

pub play_on-requires : goal.play_on-requires
play_on-requires c = none_caught_up c.args.self.now c.catch_up.new.self c.in_ok-catch_up.ensures.ok

pub returns : goal.returns
returns c =
    steps_on_by c.args.link c.args.self.now c.catch_up.new.self c.play_on.new.self c.args.turn c.play_on.result
    c.in_ok-catch_up.ensures.plays c.in_ok-catch_up.ensures.ok c.play_on.ensures

pub returns-in_err-catch_up : goal.returns-in_err-catch_up
returns-in_err-catch_up c =
    steps_on_wanting c.args.link c.args.self.now c.catch_up.new.self c.args.turn c.from_residual.result
    c.from_residual.ensures c.in_err-catch_up.ensures.plays c.in_err-catch_up.ensures.behind
