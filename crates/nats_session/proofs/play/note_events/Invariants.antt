-- the events so far, then those that wait, are all that waited
use Rattle.std.proofs.Common.{◌≡◌, ◌++◌, length}
use Rattle.nats_history.specs.History.{at_place}
use Rattle.nats_session.proofs.play.note_events.Given as goal

abbrev pub invariant-event : goal.invariant-event
invariant-event l = record {
  all : l.draft.events ++ at_place l.place l.handler.events ≡ l.initial.draft.events ++ at_place l.initial.place l.initial.handler.events;
  others : l.draft ≡ record l.initial.draft { events = l.draft.events };
  rest : l.handler.parts ≡ l.initial.handler.parts;
  ready : l.handler.ready ≡ l.initial.handler.ready;
  place : l.place ≡ l.initial.place;
}

abbrev pub decreases-event : goal.decreases-event
decreases-event l = length l.handler.events
