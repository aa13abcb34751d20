use Rattle.nats_broker.proofs.Quiet.{all_done}
use Rattle.nats_broker.proofs.laws.all_is_done.Goals as goal

pub returns : goal.returns
returns c = all_done
