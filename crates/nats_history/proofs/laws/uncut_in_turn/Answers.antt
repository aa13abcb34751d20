use Rattle.nats_history.proofs.Cuts.{uncut_in_turn}
use Rattle.nats_history.proofs.laws.uncut_in_turn.Goals as goal

pub returns : goal.returns
returns c = uncut_in_turn
