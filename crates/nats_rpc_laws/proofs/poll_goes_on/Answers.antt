use Rattle.nats_rpc_laws.proofs.Runs.{poll_goes_on}
use Rattle.nats_rpc_laws.proofs.poll_goes_on.Goals as goal

pub returns : goal.returns
returns c = poll_goes_on
