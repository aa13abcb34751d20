use Rattle.std.proofs.Common.{◌++◌, take}
use Rattle.nats_dial.proofs.Writing.{wrote_more, left_more}
use Rattle.nats_dial.proofs.link.write_all.Goals as goal

pub left-preserved : goal.left-preserved
left-preserved g c =
    let i = c.left.invariant in
    let n = c.in_ok-count.count in (
      i.0 ++ take n c.left.left,
      left_more c.args.bytes c.left.left c.advance.new.self i.0 n i.1 c.advance.ensures,
      wrote_more (g.T.LinkWrite.write_told c.args.write.now) (g.T.LinkWrite.write_told c.left.write)
          (g.T.LinkWrite.write_told c.write_some.new.write) i.0 (take n c.left.left) i.2 c.in_ok-count.ensures.told,
    )
