-- What is read, or what memory was wanting for.
use Rattle.std.proofs.Common.{ap, ◌∙◌}
use Rattle.std.specs.Prelude.{not}
use Rattle.nats_broker_text.proofs.Fronts.{ready_by, ready_there}
use Rattle.nats_broker_text.proofs.read.is_ready.Goals as goal

pub returns-in-Ok : goal.returns-in-Ok
returns-in-Ok c =
    ap not c.is_unfinished.ensures ∙ ready_by c.args.text.now c.in-Ok.front c.in-Ok.ensures.front

pub returns-in-Err : goal.returns-in-Err
returns-in-Err c = ready_there c.args.text.now c.in-Err.ensures.memory
