use Rattle.nats_rpc_laws.proofs.Runs.{none_late}
use Rattle.nats_rpc_laws.proofs.none_late.Goals as goal

pub returns : goal.returns
returns c = none_late
