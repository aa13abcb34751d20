-- The law.
use Rattle.nats_broker_laws.proofs.Valid.{all_are_fed}
use Rattle.nats_broker_laws.proofs.laws.all_are_fed.Goals as goal

pub returns : goal.returns
returns c = all_are_fed
