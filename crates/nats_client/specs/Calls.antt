-- The calls of a session that those of clients and subscribers make, and how these count.
use Rattle.std.specs.Prelude.{◌≡◌, ℕ, ◌+◌, ◌≤◌, List, [], Option, Some, None, Result, Ok, Err}
use Rattle.nats_names.specs.declared.cause.Cause.{Cause}
use Rattle.nats_names.specs.declared.cause.Cause.TheVariants as cause
use Rattle.nats_header.specs.Headers.{Headers}
use Rattle.nats_history.specs.declared.call.Call.{Call}
use Rattle.nats_history.specs.declared.call.Call.TheVariants.{Publish, Subscribe, Request}
use Rattle.nats_history.specs.declared.call.TakeReply.{TakeReply}
use Rattle.nats_history.specs.declared.call.TakeReply.TheVariants as takes
use Rattle.nats_refusals.specs.declared.kinds.FlushErrorKind.{FlushErrorKind}
use Rattle.nats_refusals.specs.declared.kinds.FlushErrorKind.TheVariants as flush
use Rattle.nats_refusals.specs.declared.kinds.RequestErrorKind.{RequestErrorKind}
use Rattle.nats_refusals.specs.declared.kinds.RequestErrorKind.TheVariants as request

-- the call that publishes this payload
abbrev pub published : List ℕ → Option (List ℕ) → List ℕ → Option Headers → Call
published subject reply payload headers =
    Publish (record { subject = subject; reply = reply; payload = payload; headers = headers })

-- the call that subscribes to this subject
abbrev pub subscribed : List ℕ → Option (List ℕ) → Call
subscribed subject group = Subscribe subject group

-- the call that requests with this payload; its token changes nothing of why it is refused
abbrev pub requested : List ℕ → List ℕ → Option Headers → Call
requested subject payload headers = Request subject payload headers []

-- a take found that none waits
abbrev pub takes_empty : {E : Type 0} → Result TakeReply E → ℕ
takes_empty (Ok takes.Empty) = 1
takes_empty reply = 0

-- ---- which calls count

-- a flush: one that failed was accepted
abbrev pub counts_flush_error : {A : Type 0} → Result A (FlushErrorKind × Option Cause) → ℕ
counts_flush_error (Ok done) = 1
counts_flush_error (Err (flush.FlushError, source)) = 1
counts_flush_error (Err e) = 0

abbrev pub counts_dropped : Option Cause → ℕ
counts_dropped (Some cause.Dropped) = 1
counts_dropped source = 0

-- a request: one that is late, has no responders or was dropped was accepted; and one for which memory is wanting may
-- have been, before that
abbrev pub CountsRequest : {A : Type 0} → Result A (RequestErrorKind × Option Cause) → ℕ → ℕ → Type 0
CountsRequest (Ok message) before after = after ≡ before + 1
CountsRequest (Err (request.TimedOut, source)) before after = after ≡ before + 1
CountsRequest (Err (request.NoResponders, source)) before after = after ≡ before + 1
CountsRequest (Err (request.Other, source)) before after = after ≡ before + counts_dropped source
CountsRequest (Err (request.NoMemory, source)) before after = (before ≤ after) × (after ≤ before + 1)
CountsRequest (Err (request.InvalidSubject, source)) before after = after ≡ before
CountsRequest (Err (request.MaxPayloadExceeded, source)) before after = after ≡ before
