-- Requests that ask for replies at an inbox of their own: why they have no reply, what they count, and what the
-- client holds.
use Rattle.std.specs.Prelude.{◌≡◌, ◌⊎◌, ℕ, ◌+◌, ◌≤◌, ◌<◌, List, [], Option, Some, None, Result, Ok, Err}
use Rattle.nats_names.specs.declared.cause.Cause.{Cause}
use Rattle.nats_names.specs.declared.cause.Cause.TheVariants as cause
use Rattle.nats_message.specs.declared.message.OutboundMessage.{OutboundMessage}
use Rattle.nats_history.specs.declared.call.Call.{Call}
use Rattle.nats_history.specs.declared.call.Call.TheVariants.{Publish}
use Rattle.nats_refusals.specs.declared.refusal.Refusal.{Refusal}
use Rattle.nats_refusals.specs.declared.refusal.Refusal.TheVariants as refused
use Rattle.nats_refusals.specs.declared.kinds.RequestErrorKind.{RequestErrorKind}
use Rattle.nats_refusals.specs.declared.kinds.RequestErrorKind.TheVariants as request
use Rattle.nats_refusals.specs.Kinds.{source_of, request_kind}
use Rattle.nats_refusals.specs.Errors.{IsTooLarge, RefusesRequest}
use Rattle.nats_client.specs.Calls.{CountsRequest}
use Rattle.nats_client.specs.Views.{ClientView}

-- the body of a request; it is empty where none is set
abbrev pub body_of : Option (List ℕ) → List ℕ
body_of (Some payload) = payload
body_of None = []

-- how many milliseconds a request waits, if not for ever: its own, or its client's where it has none
abbrev pub time_of : Option (Option ℕ) → Option ℕ → Option ℕ
time_of (Some timeout) client = timeout
time_of None client = client

-- ---- why there is no reply

-- why the inbox was not subscribed to
abbrev pub unheard : Refusal → RequestErrorKind × Option Cause
unheard refused.InvalidSubject = (request.Other, Some cause.Format)
unheard refusal = (request_kind refusal, source_of refusal)

-- why no message came there
abbrev pub unanswered : Refusal → RequestErrorKind × Option Cause
unanswered refused.Dropped = (request.Other, Some cause.BrokenPipe)
unanswered refusal = (request_kind refusal, source_of refusal)

-- the message that a call publishes
abbrev pub message_in : Call → Option OutboundMessage
message_in (Publish message) = Some message
message_in call = None

-- a message is refused for its own subject or its size, which is told before all
abbrev pub Tests : Call → RequestErrorKind → Option Cause → Type 0
Tests call request.InvalidSubject source = source ≡ Some cause.Format
Tests call request.MaxPayloadExceeded source = IsTooLarge call source
Tests call kind source = ⊥

-- the sources of an inbox that was not subscribed to, by a client with so many parts
abbrev pub IsDeaf : ℕ → Option Cause → Type 0
IsDeaf parts (Some cause.NoPart) = parts ≡ 1
IsDeaf parts (Some cause.Format) = 1 < parts
IsDeaf parts (Some cause.Closed) = 1 < parts
IsDeaf parts (Some cause.NoNumber) = 1 < parts
IsDeaf parts source = ⊥

abbrev pub IsUnheard : ℕ → RequestErrorKind → Option Cause → Type 0
IsUnheard parts request.Other source = IsDeaf parts source
IsUnheard parts request.NoMemory source = source ≡ None
IsUnheard parts kind source = ⊥

-- the sources of a message that was not published, or of an inbox whose subscription ended
abbrev pub IsBroken : Option Cause → Type 0
IsBroken (Some cause.Closed) = Unit {0}
IsBroken (Some cause.BrokenPipe) = Unit {0}
IsBroken source = ⊥

-- a message was not published, or no message came at its inbox
abbrev pub RefusesSent : Call → RequestErrorKind → Option Cause → Type 0
RefusesSent call request.Other source = IsBroken source
RefusesSent call kind source = RefusesRequest call kind source

-- the sources of a request with an inbox of its own that failed for another cause
abbrev pub IsOtherAt : ℕ → Option Cause → Type 0
IsOtherAt parts (Some cause.BrokenPipe) = 1 < parts
IsOtherAt parts source = IsDeaf parts source

-- a request with an inbox of its own, of a client with so many parts, is refused, or failed, with this kind and source
abbrev pub RefusesAt : ℕ → Call → RequestErrorKind → Option Cause → Type 0
RefusesAt parts call request.Other source = IsOtherAt parts source
RefusesAt parts call kind source = RefusesRequest call kind source

-- why a request fails that may have an inbox of its own, of a client with so many parts
abbrev pub RefusesAsked : {I : Type 0} → Option I → ℕ → Call → RequestErrorKind → Option Cause → Type 0
RefusesAsked None parts call kind source = RefusesRequest call kind source
RefusesAsked (Some inbox) parts call kind source = RefusesAt parts call kind source

-- ---- which calls count

abbrev pub counts_broken : Option Cause → ℕ
counts_broken (Some cause.BrokenPipe) = 1
counts_broken source = 0

-- a message that was published counts, whatever comes at its inbox
abbrev pub CountsSent : {A : Type 0} → Result A (RequestErrorKind × Option Cause) → ℕ → ℕ → Type 0
CountsSent (Ok message) before after = after ≡ before + 1
CountsSent (Err (request.TimedOut, source)) before after = after ≡ before + 1
CountsSent (Err (request.NoResponders, source)) before after = after ≡ before + 1
CountsSent (Err (request.Other, source)) before after = after ≡ before + counts_broken source
CountsSent (Err (request.NoMemory, source)) before after = (before ≤ after) × (after ≤ before + 1)
CountsSent (Err (request.InvalidSubject, source)) before after = after ≡ before
CountsSent (Err (request.MaxPayloadExceeded, source)) before after = after ≡ before

-- of a request with an inbox of its own: its subscription, the message, and that the subscription was let go
abbrev pub CountsOther : Option Cause → ℕ → ℕ → Type 0
CountsOther (Some cause.BrokenPipe) before after = (before + 2 ≤ after) × (after ≤ before + 3)
CountsOther source before after = (before ≤ after) × (after ≤ before + 2)

abbrev pub CountsAt : {A : Type 0} → Result A (RequestErrorKind × Option Cause) → ℕ → ℕ → Type 0
CountsAt (Ok message) before after = (before + 2 ≤ after) × (after ≤ before + 3)
CountsAt (Err (request.TimedOut, source)) before after = (before + 2 ≤ after) × (after ≤ before + 3)
CountsAt (Err (request.NoResponders, source)) before after = (before + 2 ≤ after) × (after ≤ before + 3)
CountsAt (Err (request.Other, source)) before after = CountsOther source before after
CountsAt (Err (request.NoMemory, source)) before after = (before ≤ after) × (after ≤ before + 3)
CountsAt (Err (request.InvalidSubject, source)) before after = (before ≤ after) × (after ≤ before + 2)
CountsAt (Err (request.MaxPayloadExceeded, source)) before after = (before ≤ after) × (after ≤ before + 2)

-- a request that may have an inbox of its own: without one it counts as requests do
abbrev pub CountsAsked : {A I : Type 0} → Option I → Result A (RequestErrorKind × Option Cause) → ℕ → ℕ → Type 0
CountsAsked None answer before after = CountsRequest answer before after
CountsAsked (Some inbox) answer before after = CountsAt answer before after

-- ---- what the client holds

-- a client that made further calls, and has the parts that it had, or one fewer
abbrev pub HasMade : ClientView → ClientView → Type 0
HasMade old new = new ≡ record old { made = new.made }

abbrev pub Lends : ClientView → ClientView → Type 0
Lends old new =
    (new ≡ record old { parts = new.parts; made = new.made }) × (new.parts ≤ old.parts) × (old.parts ≤ new.parts + 1)

-- after a request with an inbox of its own: where memory was wanting it may not have one part back
abbrev pub HoldsAt : {A : Type 0} → Result A (RequestErrorKind × Option Cause) → ClientView → ClientView → Type 0
HoldsAt (Err (request.NoMemory, source)) old new = Lends old new
HoldsAt answer old new = HasMade old new

-- after a request that may have an inbox of its own: without one nothing is lent
abbrev pub HoldsAsked : {A I : Type 0} → Option I → Result A (RequestErrorKind × Option Cause)
    → ClientView → ClientView → Type 0
HoldsAsked None answer old new = HasMade old new
HoldsAsked (Some inbox) answer old new = HoldsAt answer old new

-- the subscription to an inbox, which made no call, was let go, and its part came back
abbrev pub Closes : ClientView → ClientView → Type 0
Closes old new =
    (new ≡ record old { parts = old.parts + 1; made = new.made }) × (old.made ≤ new.made) × (new.made ≤ old.made + 1)

-- it was, and the answer stays; or memory was wanting, and nothing else is told
abbrev pub Ends : {A : Type 0} (answer result : Result A (RequestErrorKind × Option Cause))
    → ClientView → ClientView → Type 0
Ends answer result old new =
    ((result ≡ answer) × Closes old new) ⊎ ((result ≡ Err (request.NoMemory, None)) × (new ≡ old))
