use Rattle.std.proofs.Common.{◌≡◌}
use Rattle.nats_ticket_lock.specs.Places.{IsSame}
use Rattle.nats_ticket_lock.proofs.ticket.TicketLock.wait.Given as goal

abbrev pub invariant-loop : goal.invariant-loop
invariant-loop g l = IsSame l.initial.place l.place × (l.place.me ≡ l.initial.place.me)
