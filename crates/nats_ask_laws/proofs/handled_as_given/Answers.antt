use Rattle.nats_ask_laws.proofs.Queues.{handled_as_given}
use Rattle.nats_ask_laws.proofs.handled_as_given.Goals as goal

pub returns : goal.returns
returns c = handled_as_given
