use Rattle.nats_ask_laws.proofs.Settling.{first_reply}
use Rattle.nats_ask_laws.proofs.first_reply.Goals as goal

pub returns : goal.returns
returns c = first_reply
