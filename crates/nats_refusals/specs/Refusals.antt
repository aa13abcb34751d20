-- What replies come to, and for what each call may come to nothing.
use Rattle.std.specs.Prelude.{◌≡◌, ℕ, ◌+◌, ◌<◌, ◌≤◌, Bool, true, false, ◌&&◌, ◌||◌, Option, Some, None, Result, Ok, Err, is_some, not}
use Rattle.nats_names.specs.Names.{is_publishable, is_valid}
use Rattle.nats_message.specs.declared.message.Message.{Message}
use Rattle.nats_history.specs.declared.call.Call.{Call}
use Rattle.nats_history.specs.declared.call.Call.TheVariants.{Publish, Subscribe, Request}
use Rattle.nats_history.specs.declared.call.CallReply.{CallReply}
use Rattle.nats_history.specs.declared.call.CallReply.TheVariants as reply
use Rattle.nats_history.specs.History.{subscribes, takes_ticket}
use Rattle.nats_history.specs.Parts.{Parts}
use Rattle.nats_history.specs.Schedule.{passes, has_group, size_of, is_full}
use Rattle.nats_refusals.specs.declared.refusal.Refusal.{Refusal}
use Rattle.nats_refusals.specs.declared.refusal.Refusal.TheVariants.{InvalidSubject, InvalidQueueName, TooLarge, Closed, NoNumber, NoPart, Full, FlushFailed, NoResponders, TimedOut, Dropped, NoMemory}

-- ---- what replies come to

-- the reply of a call: a number, or none, or why it came to nothing
abbrev pub answer_of : CallReply → Result (Option ℕ) Refusal
answer_of reply.Accepted = Ok None
answer_of (reply.Numbered number) = Ok (Some number)
answer_of reply.InvalidSubject = Err InvalidSubject
answer_of reply.InvalidQueueName = Err InvalidQueueName
answer_of (reply.MaxPayloadExceeded limit size) = Err (TooLarge limit size)
answer_of reply.Closed = Err Closed
answer_of reply.NoNumber = Err NoNumber
answer_of reply.Full = Err Full
answer_of reply.FlushFailed = Err FlushFailed
answer_of reply.NoResponders = Err NoResponders
answer_of reply.TimedOut = Err TimedOut
answer_of other = Err Dropped

-- the reply by which a flush's ticket settled
abbrev pub flushed_of : CallReply → Result (Unit {0}) Refusal
flushed_of reply.Flushed = Ok tt
flushed_of other = Err FlushFailed

-- the reply by which a request's ticket settled
abbrev pub asked_of : CallReply → Result Message Refusal
asked_of (reply.Replied m) = Ok m
asked_of reply.NoResponders = Err NoResponders
asked_of reply.TimedOut = Err TimedOut
asked_of other = Err Dropped

-- ---- for what a call may come to nothing

-- a subject of a call may not stand there; that of a request may, where its inbox may not
abbrev pub FailsNames : Call → Type 0
FailsNames (Publish m) = (is_publishable m.subject && passes is_publishable m.reply) ≡ false
FailsNames (Subscribe subject group) = is_valid subject ≡ false
FailsNames (Request subject payload headers token) = Unit {0}
FailsNames call = ⊥

abbrev pub is_numbered : Call → Bool
is_numbered call = subscribes call || takes_ticket call

-- for what a call may be refused, whatever the session is; for want of room only where it does not wait for it
abbrev pub MayRefuse : (waits : Bool) → Call → Refusal → Type 0
MayRefuse waits call InvalidSubject = FailsNames call
MayRefuse waits call InvalidQueueName = has_group call ≡ false
MayRefuse waits call (TooLarge limit size) = (size ≡ size_of call) × (limit < size)
MayRefuse waits call NoNumber = is_numbered call ≡ true
MayRefuse waits call Closed = Unit {0}
MayRefuse waits call Full = waits ≡ false
MayRefuse waits call NoMemory = Unit {0}
MayRefuse waits call NoPart = ⊥
MayRefuse waits call FlushFailed = ⊥
MayRefuse waits call NoResponders = ⊥
MayRefuse waits call TimedOut = ⊥
MayRefuse waits call Dropped = ⊥

-- what a call may come to, whatever the session is: a number exactly where it gives one, or a refusal
abbrev pub MayAnswer : (waits : Bool) → Call → Result (Option ℕ) Refusal → Type 0
MayAnswer waits call (Ok number) = is_some number ≡ is_numbered call
MayAnswer waits call (Err refusal) = MayRefuse waits call refusal

-- for what a call may be refused to one with so many parts that is to give one of them away
abbrev pub MayRefuseForPart : (waits : Bool) → Call → ℕ → Refusal → Type 0
MayRefuseForPart waits call parts NoPart = parts ≡ 1
MayRefuseForPart waits call parts refusal = MayRefuse waits call refusal × (1 < parts)

-- for what a flush that waited for room may come to nothing
abbrev pub MayFailFlush : Call → Refusal → Type 0
MayFailFlush call FlushFailed = Unit {0}
MayFailFlush call refusal = MayRefuse true call refusal

-- for what a request that waited for room may come to nothing
abbrev pub MayFailAsk : Call → Refusal → Type 0
MayFailAsk call NoResponders = Unit {0}
MayFailAsk call TimedOut = Unit {0}
MayFailAsk call Dropped = Unit {0}
MayFailAsk call refusal = MayRefuse true call refusal

-- a call is not refused for want of room: there is some, or the session is closed
abbrev pub may_call : Parts → Bool
may_call p = not (is_full p) || p.is_closed

-- ---- which calls were accepted

-- a call was accepted, and counts
abbrev pub counts : {A E : Type 0} → Result A E → ℕ
counts (Ok number) = 1
counts (Err refusal) = 0

-- the same of a flush: one that failed was accepted
abbrev pub counts_flush : {A : Type 0} → Result A Refusal → ℕ
counts_flush (Err FlushFailed) = 1
counts_flush answer = counts answer

-- the same of a request: one that has no responders, is late or was dropped was accepted; and one for which memory is
-- wanting may have been, before that
abbrev pub CountsAsk : {A : Type 0} → Result A Refusal → ℕ → ℕ → Type 0
CountsAsk (Ok message) before after = after ≡ before + 1
CountsAsk (Err NoResponders) before after = after ≡ before + 1
CountsAsk (Err TimedOut) before after = after ≡ before + 1
CountsAsk (Err Dropped) before after = after ≡ before + 1
CountsAsk (Err NoMemory) before after = (before ≤ after) × (after ≤ before + 1)
CountsAsk (Err refusal) before after = after ≡ before
