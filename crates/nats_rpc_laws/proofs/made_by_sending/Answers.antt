use Rattle.nats_rpc_laws.proofs.Tokens.{made_by_sending}
use Rattle.nats_rpc_laws.proofs.made_by_sending.Goals as goal

pub returns : goal.returns
returns c = made_by_sending
