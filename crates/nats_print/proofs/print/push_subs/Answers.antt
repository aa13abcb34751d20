-- The row's lines go to the end, under the next number.
use Rattle.std.proofs.Common.{arith}
use Rattle.nats_print.specs.Printed.{sub_lines}
use Rattle.nats_spelling.proofs.Numbering.{numbered_more}
use Rattle.nats_print.proofs.print.push_subs.Goals as goal

pub loop-row-preserved : goal.loop-row-preserved
loop-row-preserved c =
    let row = c.loop-row in
    (omega arith, numbered_more sub_lines c.args.out.now.items row.out.items _ c.args.subs.now row.row-index row.s c.row-item.result c.loop-row-test.true c.row-item.is row.invariant.0 row.invariant.1 c.in_ok-push_sub.ensures)
