use Rattle.nats_ask_laws.proofs.Asking.{one_asked}
use Rattle.nats_ask_laws.proofs.one_asked.Goals as goal

pub returns : goal.returns
returns c = one_asked
