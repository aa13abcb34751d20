-- What waits under a hub's lock: events, and calls for which there is no room.
use Rattle.std.specs.Prelude.{◌≡◌, ℕ, true, nat_lt, List, [], ◌∷◌, ◌++◌, length, if◌then◌else◌}
use Rattle.nats_names.specs.declared.event.Event.{Event}
use Rattle.nats_history.specs.declared.call.Call.{Call}
use Rattle.nats_refusals.specs.Refusals.{MayAnswer, counts}
use Rattle.nats_hub.specs.declared.locked.Tried.{Tried}
use Rattle.nats_hub.specs.declared.locked.Tried.TheVariants.{Answered, NoRoom}

-- one more event waits behind the others; it is dropped where 128 wait
abbrev pub events_with : List Event → Event → List Event
events_with events event = if nat_lt (length events) 128 then events ++ event ∷ [] else events

-- an answer, never that there is no room; or the call comes back
abbrev pub MayTry : Call → Tried → Type 0
MayTry call (Answered answer) = MayAnswer true call answer
MayTry call (NoRoom back) = back ≡ call

abbrev pub counts_tried : Tried → ℕ
counts_tried (Answered answer) = counts answer
counts_tried (NoRoom back) = 0
