-- the rows so far are printed, and the next one's number is one more than theirs
use Rattle.std.proofs.Common.{◌≡◌, ◌+◌, ◌++◌, take}
use Rattle.nats_print.specs.Printed.{sub_lines}
use Rattle.nats_spelling.specs.Lines.{numbered}
use Rattle.nats_print.proofs.print.push_subs.Given as goal

abbrev pub invariant-loop-row : goal.invariant-loop-row
invariant-loop-row l =
    (l.s ≡ 1 + l.row-index) × (l.out.items ≡ l.initial.out.items ++ numbered sub_lines 1 (take l.row-index l.subs))
