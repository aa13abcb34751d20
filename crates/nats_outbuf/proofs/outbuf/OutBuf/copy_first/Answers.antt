-- The pieces give what they have, and the joined texts the rest.
use Rattle.std.proofs.Common.{rules}
use Rattle.nats_outbuf.proofs.Pieces.{take_two}
use Rattle.nats_outbuf.proofs.outbuf.OutBuf.copy_first.Goals as goal

pub returns : goal.returns
returns c =
    let both = take_two c.self.inside.chunks c.self.inside.tail.items c.args.n in
    search rules
