-- Which replies hold a message.
use Rattle.std.specs.Prelude.{ℕ, Option, Some, None}
use Rattle.nats_message.specs.declared.message.Message.{Message}
use Rattle.nats_history.specs.declared.call.CallReply.{CallReply}
use Rattle.nats_history.specs.declared.call.CallReply.TheVariants.{Replied}
use Rattle.nats_history.specs.declared.call.TakeReply.{TakeReply}
use Rattle.nats_history.specs.declared.call.TakeReply.TheVariants as takes
use Rattle.nats_history.specs.declared.turn.Turn.{Turn}
use Rattle.nats_history.specs.declared.turn.Turn.TheVariants.{Take}
use Rattle.nats_history.specs.Parts.{Parts}
use Rattle.nats_tables.specs.Numbers.{item_of}
use Rattle.nats_subs.specs.Delivery.{first_of}
use Rattle.nats_core.specs.declared.entry.StepReply.{StepReply}
use Rattle.nats_core.specs.declared.entry.StepReply.TheVariants as replies

-- the reply of a call holds no message: only a ticket's does
abbrev pub IsPlain : CallReply → Type 0
IsPlain (Replied m) = ⊥
IsPlain reply = Unit {0}

abbrev pub IsPlainReply : StepReply → Type 0
IsPlainReply (replies.Call reply) = IsPlain reply
IsPlainReply reply = Unit {0}

-- the message that was taken
abbrev pub taken_message : TakeReply → Option Message
taken_message (takes.Message m) = Some m
taken_message reply = None

abbrev pub message_of : StepReply → Option Message
message_of (replies.Take reply) = taken_message reply
message_of reply = None

-- the message that a turn is to take
abbrev pub waiting_for : Parts → Turn → Option Message
waiting_for p (Take sid) = first_of (item_of sid p.subs.rows)
waiting_for p turn = None
