-- What was played is finished.
use Rattle.std.proofs.Common.{◌∙◌}
use Rattle.nats_session.proofs.Runs.{wanting, refused_so}
use Rattle.nats_session.proofs.play.run_on.Goals as goal

pub returns-in_ok-finish-in-Ok : goal.returns-in_ok-finish-in-Ok
returns-in_ok-finish-in-Ok c config parts =
    let done = c.in-Ok.ensures config parts c.new-draft.ensures in
    (done.0, c.in_ok-finish-in-Ok.ensures ∙ done.1)

pub returns-in_err-finish-in-Ok : goal.returns-in_err-finish-in-Ok
returns-in_err-finish-in-Ok c config parts =
    wanting config c.args.turns.now c.from_residual.result c.from_residual.ensures

pub returns-in-Err : goal.returns-in-Err
returns-in-Err c config parts =
    refused_so config c.args.turns.now c.in-Err.refused c.play_all.new.handler.parts c.play_all.new.draft
    (c.in-Err.ensures config parts c.new-draft.ensures)
