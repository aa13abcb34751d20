use Rattle.nats_history.proofs.Cuts.{cut_anyhow}
use Rattle.nats_history.proofs.laws.cut_anyhow.Goals as goal

pub returns : goal.returns
returns c = cut_anyhow
