use Rattle.nats_ask_laws.proofs.Settling.{one_by_one}
use Rattle.nats_ask_laws.proofs.one_by_one.Goals as goal

pub returns : goal.returns
returns c = one_by_one
