-- The law.
use Rattle.nats_server_laws.proofs.Fit.{reads_fit}
use Rattle.nats_server_laws.proofs.Waiting.{told_as_asked}
use Rattle.nats_server_laws.proofs.laws.told_as_asked.Goals as goal

pub returns : goal.returns
returns c = told_as_asked reads_fit
