-- What an error tells of the call that was refused.
use Rattle.std.proofs.Common.{◌≡◌, ℕ, Bool, List, Option, refl, sym, ◌<◌, arith}
use Rattle.std.proofs.lemmas.Bool.{false≢true}
use Rattle.nats_header.specs.Headers.{Headers}
use Rattle.nats_message.specs.declared.message.OutboundMessage.{OutboundMessage}
use Rattle.nats_history.specs.declared.call.Call.TheVariants.{Publish, Subscribe, Request, Flush}
use Rattle.nats_refusals.specs.declared.refusal.Refusal.{Refusal}
use Rattle.nats_refusals.specs.declared.refusal.Refusal.TheVariants.{InvalidSubject, InvalidQueueName, TooLarge, Closed, NoNumber, NoPart, Full, FlushFailed, NoResponders, TimedOut, Dropped, NoMemory}
use Rattle.nats_refusals.specs.Refusals.{MayRefuse, MayRefuseForPart, MayFailFlush, MayFailAsk}
use Rattle.nats_refusals.specs.Kinds.{source_of, publish_kind, subscribe_kind, flush_kind, request_kind, closing_cause}
use Rattle.nats_refusals.specs.Errors.{RefusesPublish, RefusesSubscribe, RefusesFlush, RefusesRequest, RefusesClosing}

too_large : (limit size : ℕ) → size ≡ 0 → limit < size → ⊥
too_large limit size none more = omega (arith, none, more)

-- of a message that was published
pub tells_publish : (waits : Bool) (m : OutboundMessage) (r : Refusal) → MayRefuse waits (Publish m) r
    → RefusesPublish waits (Publish m) (publish_kind r) (source_of r)
tells_publish waits m InvalidSubject may = (refl, may)
tells_publish waits m InvalidQueueName may = absurd (false≢true (sym may))
tells_publish waits m (TooLarge limit size) may = may
tells_publish waits m Closed may = refl
tells_publish waits m NoNumber may = absurd (false≢true may)
tells_publish waits m Full may = (may, refl)
tells_publish waits m NoMemory may = refl
tells_publish waits m refusal may = absurd may

-- of a subscription
pub tells_subscribe : (waits : Bool) (parts : ℕ) (subject : List ℕ) (group : Option (List ℕ)) (r : Refusal)
    → MayRefuseForPart waits (Subscribe subject group) parts r
    → RefusesSubscribe waits parts (Subscribe subject group) (subscribe_kind r) (source_of r)
tells_subscribe waits parts s g InvalidSubject may = (refl, may.0, may.1)
tells_subscribe waits parts s g InvalidQueueName may = (refl, may.0, may.1)
tells_subscribe waits parts s g (TooLarge limit size) may = absurd (too_large limit size may.0.0 may.0.1)
tells_subscribe waits parts s g Closed may = may.1
tells_subscribe waits parts s g NoNumber may = may.1
tells_subscribe waits parts s g NoPart may = may
tells_subscribe waits parts s g Full may = (may.0, refl, may.1)
tells_subscribe waits parts s g NoMemory may = (refl, may.1)
tells_subscribe waits parts s g refusal may = absurd may.0

-- of a flush
pub tells_flush : (r : Refusal) → MayFailFlush Flush r → RefusesFlush (flush_kind r) (source_of r)
tells_flush InvalidSubject may = absurd may
tells_flush InvalidQueueName may = absurd (false≢true (sym may))
tells_flush (TooLarge limit size) may = absurd (too_large limit size may.0 may.1)
tells_flush Closed may = tt
tells_flush NoNumber may = tt
tells_flush Full may = absurd (false≢true (sym may))
tells_flush FlushFailed may = refl
tells_flush NoMemory may = refl
tells_flush refusal may = absurd may

-- of a request
pub tells_request : (subject payload : List ℕ) (headers : Option Headers) (token : List ℕ) (r : Refusal)
    → MayFailAsk (Request subject payload headers token) r
    → RefusesRequest (Request subject payload headers token) (request_kind r) (source_of r)
tells_request s p hs t InvalidSubject may = refl
tells_request s p hs t InvalidQueueName may = absurd (false≢true (sym may))
tells_request s p hs t (TooLarge limit size) may = may
tells_request s p hs t Closed may = tt
tells_request s p hs t NoNumber may = tt
tells_request s p hs t Full may = absurd (false≢true (sym may))
tells_request s p hs t NoResponders may = refl
tells_request s p hs t TimedOut may = refl
tells_request s p hs t Dropped may = tt
tells_request s p hs t NoMemory may = refl
tells_request s p hs t refusal may = absurd may

-- of what ends something
pub tells_closing : (r : Refusal) → RefusesClosing (closing_cause r)
tells_closing NoMemory = tt
tells_closing InvalidSubject = tt
tells_closing InvalidQueueName = tt
tells_closing (TooLarge limit size) = tt
tells_closing Closed = tt
tells_closing NoNumber = tt
tells_closing NoPart = tt
tells_closing Full = tt
tells_closing FlushFailed = tt
tells_closing NoResponders = tt
tells_closing TimedOut = tt
tells_closing Dropped = tt
