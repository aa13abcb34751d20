-- The law.
use Rattle.nats_server_laws.proofs.Fit.{reads_fit}
use Rattle.nats_server_laws.proofs.laws.reads_fit.Goals as goal

pub returns : goal.returns
returns c = reads_fit
