-- the settled tickets among those before this one, no more than these
use Rattle.std.proofs.Common.{◌≡◌, ◌≤◌, take, count_by, is_some}
use Rattle.nats_bulk.proofs.sums.settled.Given as goal

abbrev pub invariant-loop-ticket : goal.invariant-loop-ticket
invariant-loop-ticket l = (l.count ≡ count_by is_some (take l.ticket-index l.tickets)) × (l.count ≤ l.ticket-index)
