-- What a request with an inbox of its own is refused for before it is made, and why no message comes at that inbox.
use Rattle.std.specs.Prelude.{◌≡◌, ◌<◌, if◌then◌else◌, Option, Some, None, Result, Ok, Err}
use Rattle.nats_message.specs.declared.message.Message.{Message}
use Rattle.nats_history.specs.Tickets.{is_no_responders}
use Rattle.nats_history.specs.declared.call.Call.{Call}
use Rattle.nats_history.specs.Schedule.{size_of}
use Rattle.nats_refusals.specs.declared.refusal.Refusal.{Refusal}
use Rattle.nats_refusals.specs.declared.refusal.Refusal.TheVariants.{InvalidSubject, TooLarge, TimedOut, Dropped, NoResponders, NoMemory}
use Rattle.nats_refusals.specs.Refusals.{FailsNames}

-- a call would be refused for its own words: a subject may not stand there, or the message is too large
abbrev pub Objects : Call → Refusal → Type 0
Objects call InvalidSubject = FailsNames call
Objects call (TooLarge limit size) = (size ≡ size_of call) × (limit < size)
Objects call refusal = ⊥

-- why no message comes: its time is over, the subscription ended, the message says that nobody answers, or memory is
-- wanting
abbrev pub Lacks : Refusal → Type 0
Lacks TimedOut = Unit {0}
Lacks Dropped = Unit {0}
Lacks NoResponders = Unit {0}
Lacks NoMemory = Unit {0}
Lacks refusal = ⊥

-- a message of an inbox, or that none will come: one with the status 503 says that nobody answers
abbrev pub replied_by : Option Message → Result Message Refusal
replied_by (Some m) = if is_no_responders m.status then Err NoResponders else Ok m
replied_by None = Err Dropped
