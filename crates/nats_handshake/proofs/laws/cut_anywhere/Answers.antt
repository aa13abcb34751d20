use Rattle.nats_handshake.proofs.Heard.{course_more}
use Rattle.nats_handshake.proofs.laws.cut_anywhere.Goals as goal

pub returns : goal.returns
returns c = course_more
