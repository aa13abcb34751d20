use Rattle.nats_rpc_laws.proofs.Attempts.{replied_stays}
use Rattle.nats_rpc_laws.proofs.replied_stays.Goals as goal

pub returns : goal.returns
returns c = replied_stays
