-- the first ones are of other tickets
use Rattle.nats_tickets.proofs.Places.{Past}
use Rattle.nats_tickets.proofs.ready.place_in.Given as goal

abbrev pub invariant-ready : goal.invariant-ready
invariant-ready l = Past l.ticket l.place l.ready.items
