-- The pieces give what they have, and the joined texts the rest.
use Rattle.std.proofs.Common.{rules}
use Rattle.bytes.proofs.Chunks.{drop-append_min}
use Rattle.nats_outbuf.proofs.outbuf.OutBuf.taken.Goals as goal

pub returns : goal.returns
returns c =
    let both = drop-append_min c.self.inside.chunks c.self.inside.tail.items c.args.n in
    search rules
