use Rattle.nats_rpc_laws.proofs.Runs.{first_of_attempt}
use Rattle.nats_rpc_laws.proofs.first_of_attempt.Goals as goal

pub returns : goal.returns
returns c = first_of_attempt
