-- the rows so far are printed, and the next one's number is one more than theirs
use Rattle.std.proofs.Common.{◌≡◌, ◌+◌, ◌++◌, take}
use Rattle.nats_print.specs.Printed.{ticket_line}
use Rattle.nats_spelling.specs.Lines.{numbered}
use Rattle.nats_print.proofs.print.push_tickets.Given as goal

abbrev pub invariant-loop-row : goal.invariant-loop-row
invariant-loop-row l =
    (l.t ≡ 1 + l.row-index) × (l.out.items ≡ l.initial.out.items ++ numbered ticket_line 1 (take l.row-index l.tickets))
