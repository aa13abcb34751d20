use Rattle.nats_rpc_laws.proofs.Runs.{replied_by}
use Rattle.nats_rpc_laws.proofs.replied_by.Goals as goal

pub returns : goal.returns
returns c = replied_by
