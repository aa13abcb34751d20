use Rattle.nats_broker.proofs.Pieces.{pieces_join}
use Rattle.nats_broker.proofs.laws.pieces_join.Goals as goal

pub returns : goal.returns
returns c = pieces_join
