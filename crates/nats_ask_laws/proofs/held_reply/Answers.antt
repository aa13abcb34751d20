use Rattle.nats_ask_laws.proofs.Settling.{held_reply}
use Rattle.nats_ask_laws.proofs.held_reply.Goals as goal

pub returns : goal.returns
returns c = held_reply
