-- When a request is late.
use Rattle.std.specs.Prelude.{ℕ, ◌+◌, ◌≤◌, Bool, false, nat_le, Option, Some, None}
use Rattle.std.specs.Prelude.{Result, Err}
use Rattle.nats_message.specs.declared.message.Message.{Message}
use Rattle.nats_refusals.specs.declared.refusal.Refusal.{Refusal}
use Rattle.nats_refusals.specs.declared.refusal.Refusal.TheVariants.{NoResponders, TimedOut, Dropped, NoMemory}
use Rattle.nats_outside.specs.Told.{ClockTold}
use Rattle.nats_outside.specs.Counts.{Rose}

-- a time is that long after a start at least
abbrev pub is_late : Option ℕ → ℕ → ℕ → Bool
is_late None start now = false
is_late (Some timeout) start now = nat_le (start + timeout) now

-- the clock was started, and gives that long after its last start at least
abbrev pub IsLate : Option ℕ → ClockTold → ClockTold → Type 0
IsLate None before after = ⊥
IsLate (Some timeout) before after = Rose before.starts after.starts × (after.start + timeout ≤ after.last)

-- what the reply of a ticket comes to before its own time is over: a deadline that another played drops the request
abbrev pub early_of : Result Message Refusal → Result Message Refusal
early_of (Err TimedOut) = Err Dropped
early_of answer = answer

-- why an accepted request has no reply
abbrev pub IsFailed : Refusal → Type 0
IsFailed NoResponders = Unit {0}
IsFailed TimedOut = Unit {0}
IsFailed Dropped = Unit {0}
IsFailed NoMemory = Unit {0}
IsFailed refusal = ⊥
