-- A take where nothing waits makes no step.
use Rattle.std.proofs.Common.{refl, ◌∙◌}
use Rattle.nats_history.specs.Schedule.{take_reply}
use Rattle.nats_session.proofs.Handlers.{own_take, may_take}
use Rattle.nats_core.proofs.plays.play_take.Goals as goal

pub returns-clause-seen : goal.returns-clause-seen
returns-clause-seen c =
    let old = c.args.handler.now in
    c.take.ensures.rest ∙ own_take old c.args.sid (take_reply old.parts c.args.sid) (may_take old.parts c.args.sid c.requires) refl
