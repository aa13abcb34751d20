-- the tickets as they will stand once those that wait are written are those that will
use Rattle.std.proofs.Common.{◌≡◌, length}
use Rattle.nats_history.specs.Tickets.{settle_rows}
use Rattle.nats_session.proofs.play.note_settled.Given as goal

abbrev pub invariant-ticket : goal.invariant-ticket
invariant-ticket l = record {
  all : settle_rows l.place l.handler.ready l.draft.tickets ≡ settle_rows l.initial.place l.initial.handler.ready l.initial.draft.tickets;
  others : l.draft ≡ record l.initial.draft { tickets = l.draft.tickets };
  rest : l.handler ≡ record l.initial.handler { ready = l.handler.ready };
  place : l.place ≡ l.initial.place;
}

abbrev pub decreases-ticket : goal.decreases-ticket
decreases-ticket l = length l.handler.ready
