-- The broker's turns, one list behind another.
use Rattle.nats_moves.proofs.Turns.{broker_of_turns}
use Rattle.nats_moves.proofs.laws.broker_of_turns.Goals as goal

pub returns : goal.returns
returns c = broker_of_turns
