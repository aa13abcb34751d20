use Rattle.nats_ask_laws.proofs.Turns.{turns_in_order}
use Rattle.nats_ask_laws.proofs.turns_in_order.Goals as goal

pub returns : goal.returns
returns c = turns_in_order
