-- The law.
use Rattle.nats_server_laws.proofs.Fit.{reads_fit}
use Rattle.nats_server_laws.proofs.Waiting.{waits_as_said}
use Rattle.nats_server_laws.proofs.laws.waits_as_said.Goals as goal

pub returns : goal.returns
returns c = waits_as_said reads_fit
