use Rattle.nats_rpc_laws.proofs.Tokens.{subject_of_attempt}
use Rattle.nats_rpc_laws.proofs.subject_of_attempt.Goals as goal

pub returns : goal.returns
returns c = subject_of_attempt
