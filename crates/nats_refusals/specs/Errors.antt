-- When a call of a client answers each of its errors.
use Rattle.std.specs.Prelude.{◌≡◌, ℕ, ◌<◌, Bool, false, Option, Some, None}
use Rattle.nats_names.specs.declared.cause.Cause.{Cause}
use Rattle.nats_names.specs.declared.cause.Cause.TheVariants as cause
use Rattle.nats_history.specs.declared.call.Call.{Call}
use Rattle.nats_history.specs.Schedule.{has_group, size_of}
use Rattle.nats_system.specs.declared.errors.PublishErrorKind.{PublishErrorKind}
use Rattle.nats_system.specs.declared.errors.PublishErrorKind.TheVariants as publish
use Rattle.nats_system.specs.declared.errors.SubscribeErrorKind.{SubscribeErrorKind}
use Rattle.nats_system.specs.declared.errors.SubscribeErrorKind.TheVariants as subscribe
use Rattle.nats_refusals.specs.declared.kinds.RequestErrorKind.{RequestErrorKind}
use Rattle.nats_refusals.specs.declared.kinds.RequestErrorKind.TheVariants as request
use Rattle.nats_refusals.specs.declared.kinds.FlushErrorKind.{FlushErrorKind}
use Rattle.nats_refusals.specs.declared.kinds.FlushErrorKind.TheVariants as flush
use Rattle.nats_refusals.specs.Refusals.{FailsNames}

-- a message is too large: the source tells the limit and its size
abbrev pub IsTooLarge : Call → Option Cause → Type 0
IsTooLarge call (Some (cause.Payload limit size)) = (size ≡ size_of call) × (limit < size)
IsTooLarge call source = ⊥

-- a call that publishes is refused with this kind and source; for want of room only where it does not wait for it
abbrev pub RefusesPublish : (waits : Bool) → Call → PublishErrorKind → Option Cause → Type 0
RefusesPublish waits call publish.InvalidSubject source = (source ≡ Some cause.Format) × FailsNames call
RefusesPublish waits call publish.MaxPayloadExceeded source = IsTooLarge call source
RefusesPublish waits call publish.Send source = source ≡ Some cause.Closed
RefusesPublish waits call publish.Full source = (waits ≡ false) × (source ≡ None)
RefusesPublish waits call publish.NoMemory source = source ≡ None

-- the sources of a subscription that is refused for another cause: the session, or a client with one part alone
abbrev pub IsOther : ℕ → Option Cause → Type 0
IsOther parts (Some cause.NoPart) = parts ≡ 1
IsOther parts (Some cause.Closed) = 1 < parts
IsOther parts (Some cause.NoNumber) = 1 < parts
IsOther parts source = ⊥

-- a call that subscribes, of a client with so many parts, is refused with this kind and source. That it has one part
-- alone comes first of all
abbrev pub RefusesSubscribe : (waits : Bool) → ℕ → Call → SubscribeErrorKind → Option Cause → Type 0
RefusesSubscribe waits parts call subscribe.InvalidSubject source =
    (source ≡ Some cause.Format) × FailsNames call × (1 < parts)
RefusesSubscribe waits parts call subscribe.InvalidQueueName source =
    (source ≡ None) × (has_group call ≡ false) × (1 < parts)
RefusesSubscribe waits parts call subscribe.Other source = IsOther parts source
RefusesSubscribe waits parts call subscribe.Full source = (waits ≡ false) × (source ≡ None) × (1 < parts)
RefusesSubscribe waits parts call subscribe.NoMemory source = (source ≡ None) × (1 < parts)

-- a flush is refused, or failed, with this kind and source
abbrev pub IsUnsent : Option Cause → Type 0
IsUnsent (Some cause.Closed) = Unit {0}
IsUnsent (Some cause.NoNumber) = Unit {0}
IsUnsent source = ⊥

abbrev pub RefusesFlush : FlushErrorKind → Option Cause → Type 0
RefusesFlush flush.SendError source = IsUnsent source
RefusesFlush flush.FlushError source = source ≡ Some cause.Dropped
RefusesFlush flush.NoMemory source = source ≡ None

-- the sources of a request that failed for another cause: the session, or that it was dropped
abbrev pub IsOtherAsk : Option Cause → Type 0
IsOtherAsk (Some cause.Closed) = Unit {0}
IsOtherAsk (Some cause.NoNumber) = Unit {0}
IsOtherAsk (Some cause.Dropped) = Unit {0}
IsOtherAsk source = ⊥

-- a request is refused, or failed, with this kind and source
abbrev pub RefusesRequest : Call → RequestErrorKind → Option Cause → Type 0
RefusesRequest call request.TimedOut source = source ≡ None
RefusesRequest call request.NoResponders source = source ≡ Some cause.NoResponders
RefusesRequest call request.InvalidSubject source = source ≡ Some cause.Format
RefusesRequest call request.MaxPayloadExceeded source = IsTooLarge call source
RefusesRequest call request.Other source = IsOtherAsk source
RefusesRequest call request.NoMemory source = source ≡ None

-- a drain, a reconnect or the end of a subscription is refused for this cause
abbrev pub RefusesClosing : Cause → Type 0
RefusesClosing cause.Closed = Unit {0}
RefusesClosing cause.NoMemory = Unit {0}
RefusesClosing cause = ⊥
