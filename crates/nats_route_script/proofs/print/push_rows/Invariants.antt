-- the rows so far are printed, and the next one's number is one more than theirs
use Rattle.std.proofs.Common.{◌≡◌, ◌+◌, ◌++◌, take}
use Rattle.nats_spelling.specs.Lines.{numbered}
use Rattle.nats_route_script.specs.Printed.{peer_lines}
use Rattle.nats_route_script.proofs.print.push_rows.Given as goal

abbrev pub invariant-loop-row : goal.invariant-loop-row
invariant-loop-row l =
    (l.p ≡ 1 + l.row-index) × (l.out.items ≡ l.initial.out.items ++ numbered peer_lines 1 (take l.row-index l.rows))
