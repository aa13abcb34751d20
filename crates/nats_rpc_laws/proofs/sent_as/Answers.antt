use Rattle.nats_rpc_laws.proofs.Tokens.{sent_as}
use Rattle.nats_rpc_laws.proofs.sent_as.Goals as goal

pub returns : goal.returns
returns c = sent_as
