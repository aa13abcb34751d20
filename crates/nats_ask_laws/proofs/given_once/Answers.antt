use Rattle.nats_ask_laws.proofs.Queues.{given_once}
use Rattle.nats_ask_laws.proofs.given_once.Goals as goal

pub returns : goal.returns
returns c = given_once
