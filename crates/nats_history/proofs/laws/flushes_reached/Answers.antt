use Rattle.nats_history.proofs.Flushes.{flushes_reached}
use Rattle.nats_history.proofs.laws.flushes_reached.Goals as goal

pub returns : goal.returns
returns c = flushes_reached
