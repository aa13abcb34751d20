-- One more piece is copied.
use Rattle.std.proofs.Common.{rules, arith, ◌≡◌, length, min, take, ◌++◌}
use Rattle.nats_outbuf.proofs.Pieces.{copy_step}
use Rattle.nats_outbuf.proofs.chunks.Chunks.copy_to.Goals as goal

pub loop-i-preserved : goal.loop-i-preserved
loop-i-preserved c =
    let piece = c.index.result.now in
    let count : c.min-count.result ≡ min c.loop-i.left (length piece) = search rules in
    let more : c.extend_from_slice.new.self.items ≡ c.loop-i.copy.items ++ take c.min-count.result piece = search rules in
    copy_step c.self.inside.pieces.items c.loop-i.i _ c.loop-i.left c.min-count.result piece c.loop-i.copy.items c.extend_from_slice.new.self.items _
    (omega (arith, c.loop-i-test.true, c.loop-i.auto.i-end, c.len-i-end.ensures)) (omega arith) c.index.ensures count c.loop-i.invariant more
