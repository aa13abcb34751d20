use Rattle.nats_history.proofs.Refines.{parts_after}
use Rattle.nats_history.proofs.laws.parts_after.Goals as goal

pub returns : goal.returns
returns c = parts_after
