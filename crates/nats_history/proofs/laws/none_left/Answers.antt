use Rattle.nats_history.proofs.Dues.{none_left}
use Rattle.nats_history.proofs.laws.none_left.Goals as goal

pub returns : goal.returns
returns c = none_left
