use Rattle.nats_ask_laws.proofs.Asking.{since_asked}
use Rattle.nats_ask_laws.proofs.since_asked.Goals as goal

pub returns : goal.returns
returns c = since_asked
