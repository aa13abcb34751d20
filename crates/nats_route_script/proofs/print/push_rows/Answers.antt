-- The row's lines go to the end, under the next number.
use Rattle.std.proofs.Common.{arith}
use Rattle.nats_route_script.specs.Printed.{peer_lines}
use Rattle.nats_spelling.proofs.Numbering.{numbered_more}
use Rattle.nats_route_script.proofs.print.push_rows.Goals as goal

pub loop-row-preserved : goal.loop-row-preserved
loop-row-preserved c =
    let row = c.loop-row in
    (omega arith, numbered_more peer_lines c.args.out.now.items row.out.items _ c.args.rows.now row.row-index row.p c.row-item.result c.loop-row-test.true c.row-item.is row.invariant.0 row.invariant.1 c.in_ok-push_row.ensures)
