-- the accepted calls among the entries before this one, no more than these
use Rattle.std.proofs.Common.{◌≡◌, ◌≤◌, take, count_by}
use Rattle.nats_seat_text.specs.Report.{was_accepted}
use Rattle.nats_seat_text.proofs.output.accepted_in.Given as goal

abbrev pub invariant-loop-entry : goal.invariant-loop-entry
invariant-loop-entry l = (l.count ≡ count_by was_accepted (take l.entry-index l.journal)) × (l.count ≤ l.entry-index)
