use Rattle.nats_bulk.proofs.Opening.{in_turn}
use Rattle.nats_bulk.proofs.laws.in_turn.Goals as goal

pub returns : goal.returns
returns c = in_turn
