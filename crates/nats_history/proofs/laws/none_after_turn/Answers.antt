use Rattle.nats_history.proofs.Plays.{none_after_turn}
use Rattle.nats_history.proofs.laws.none_after_turn.Goals as goal

pub returns : goal.returns
returns c = none_after_turn
