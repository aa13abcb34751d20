use Rattle.nats_rpc_laws.proofs.Runs.{one_call}
use Rattle.nats_rpc_laws.proofs.one_call.Goals as goal

pub returns : goal.returns
returns c = one_call
