-- those among the entries before this one, no more than these
use Rattle.std.proofs.Common.{◌≡◌, ◌≤◌, take, count_by}
use Rattle.nats_seat_workers.specs.Publishing.{is_accepted_by}
use Rattle.nats_seat_workers.proofs.closed.accepted_by.Given as goal

abbrev pub invariant-loop-entry : goal.invariant-loop-entry
invariant-loop-entry l =
    (l.count ≡ count_by (is_accepted_by l.number) (take l.entry-index l.journal)) × (l.count ≤ l.entry-index)
