use Rattle.nats_broker_text.proofs.Growing.{peer_stays}
use Rattle.nats_broker_text.proofs.laws.front_stays.Goals as goal

pub returns : goal.returns
returns c = peer_stays
