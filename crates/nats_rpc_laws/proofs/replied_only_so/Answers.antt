use Rattle.nats_rpc_laws.proofs.Attempts.{replied_only_so}
use Rattle.nats_rpc_laws.proofs.replied_only_so.Goals as goal

pub returns : goal.returns
returns c = replied_only_so
