use Rattle.nats_ask_laws.proofs.Settling.{settled_for_good}
use Rattle.nats_ask_laws.proofs.settled_for_good.Goals as goal

pub returns : goal.returns
returns c = settled_for_good
