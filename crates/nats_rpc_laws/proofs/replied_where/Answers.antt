use Rattle.nats_rpc_laws.proofs.Attempts.{replied_where}
use Rattle.nats_rpc_laws.proofs.replied_where.Goals as goal

pub returns : goal.returns
returns c = replied_where
