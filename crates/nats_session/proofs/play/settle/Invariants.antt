-- what is still due leads to what was due at first
use Rattle.std.proofs.Common.{◌≡◌, []}
use Rattle.nats_history.specs.Schedule.{most_due}
use Rattle.nats_session.specs.Machine.{settled_parts, settled_sheet}
use Rattle.nats_session.proofs.play.settle.Given as goal

abbrev pub invariant-due : goal.invariant-due
invariant-due l = record {
  none : l.handler.events ≡ [];
  settled : l.handler.ready ≡ [];
  same_parts : settled_parts l.handler.parts ≡ settled_parts l.initial.handler.parts;
  same_sheet : settled_sheet l.place l.handler.parts l.draft ≡ settled_sheet l.initial.place l.initial.handler.parts l.initial.draft;
  place : l.place ≡ l.initial.place;
}

abbrev pub decreases-due : goal.decreases-due
decreases-due l = most_due l.handler.parts
