use Rattle.nats_history.proofs.Plays.{same_settled}
use Rattle.nats_history.proofs.laws.same_settled.Goals as goal

pub returns : goal.returns
returns c = same_settled
