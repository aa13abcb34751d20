-- What the error of a request tells of what it counts, and of its time.
use Rattle.std.proofs.Common.{◌≡◌, ℕ, ◌+◌, ◌≤◌, Bool, List, Option, Result, Ok, Err, refl, ap, arith}
use Rattle.nats_header.specs.Headers.{Headers}
use Rattle.nats_message.specs.declared.message.Message.{Message}
use Rattle.nats_history.specs.declared.call.Call.TheVariants.{Request}
use Rattle.nats_hub.specs.Tallying.{Holding}
use Rattle.nats_refusals.proofs.Telling.{tells_request, tells_flush}
use Rattle.nats_history.specs.declared.call.Call.{Call}
use Rattle.nats_refusals.specs.declared.refusal.Refusal.{Refusal}
use Rattle.nats_refusals.specs.declared.refusal.Refusal.TheVariants.{InvalidSubject, InvalidQueueName, TooLarge, Closed, NoNumber, NoPart, Full, FlushFailed, NoResponders, TimedOut, Dropped, NoMemory}
use Rattle.nats_refusals.specs.declared.kinds.RequestErrorKind.TheVariants as kinds
use Rattle.nats_refusals.specs.Refusals.{MayFailAsk, CountsAsk, counts, counts_flush}
use Rattle.nats_refusals.specs.Kinds.{source_of, request_kind, flush_kind}
use Rattle.nats_refusals.specs.Errors.{RefusesRequest}
use Rattle.nats_client.specs.Calls.{requested, CountsRequest, counts_flush_error}
use Rattle.nats_client.specs.Views.{ClientView, client_of}

plus_none : (before after : ℕ) → after ≡ before → after ≡ before + 0
plus_none before after is = omega (arith, is)

pub counts_request : (call : Call) (before after : ℕ) (r : Refusal) → MayFailAsk call r
    → CountsAsk {A = Message} (Err r) before after
    → CountsRequest {A = Message} (Err (request_kind r, source_of r)) before after
counts_request call before after InvalidSubject may is = is
counts_request call before after InvalidQueueName may is = plus_none before after is
counts_request call before after (TooLarge limit size) may is = is
counts_request call before after Closed may is = plus_none before after is
counts_request call before after NoNumber may is = plus_none before after is
counts_request call before after NoPart may is = absurd may
counts_request call before after Full may is = plus_none before after is
counts_request call before after FlushFailed may is = absurd may
counts_request call before after NoResponders may is = is
counts_request call before after TimedOut may is = is
counts_request call before after Dropped may is = is
counts_request call before after NoMemory may is = is

-- only a request whose time is over is told as such
pub late_request : (r : Refusal) → request_kind r ≡ kinds.TimedOut → r ≡ TimedOut
late_request TimedOut is = refl
late_request InvalidSubject is = cc
late_request InvalidQueueName is = cc
late_request (TooLarge limit size) is = cc
late_request Closed is = cc
late_request NoNumber is = cc
late_request NoPart is = cc
late_request Full is = cc
late_request FlushFailed is = cc
late_request NoResponders is = cc
late_request Dropped is = cc
late_request NoMemory is = cc

-- of a request; its token changes nothing of that
pub tells_requested : (subject payload : List ℕ) (headers : Option Headers) (token : List ℕ) (r : Refusal)
    → MayFailAsk (Request subject payload headers token) r
    → RefusesRequest (requested subject payload headers) (request_kind r) (source_of r)
tells_requested s p hs t InvalidSubject may = tells_request s p hs t InvalidSubject may
tells_requested s p hs t InvalidQueueName may = tells_request s p hs t InvalidQueueName may
tells_requested s p hs t (TooLarge limit size) may = tells_request s p hs t (TooLarge limit size) may
tells_requested s p hs t Closed may = tells_request s p hs t Closed may
tells_requested s p hs t NoNumber may = tells_request s p hs t NoNumber may
tells_requested s p hs t NoPart may = absurd may
tells_requested s p hs t Full may = tells_request s p hs t Full may
tells_requested s p hs t FlushFailed may = absurd may
tells_requested s p hs t NoResponders may = tells_request s p hs t NoResponders may
tells_requested s p hs t TimedOut may = tells_request s p hs t TimedOut may
tells_requested s p hs t Dropped may = tells_request s p hs t Dropped may
tells_requested s p hs t NoMemory may = tells_request s p hs t NoMemory may

-- ---- flushes

pub flush_counts_error : (r : Refusal)
    → counts_flush_error {A = Unit {0}} (Err (flush_kind r, source_of r)) ≡ counts_flush {A = Unit {0}} (Err r)
flush_counts_error FlushFailed = refl
flush_counts_error NoMemory = refl
flush_counts_error refusal = refl

-- ---- what a client holds

-- a client whose holder made more calls, and has the parts that it had
pub held_made : (a b : Holding) (timeout : Option ℕ) (shut : Bool) → b.parts ≡ a.parts
    → client_of b timeout shut ≡ record (client_of a timeout shut) { made = b.made }
held_made a b timeout shut same =
    let with : ℕ → ClientView = λ p. record { parts = p; made = b.made; timeout = timeout; is_shut = shut } in
    ap with same

-- one call counts once at most
pub counts_most : {A E : Type 0} (x : Result A E) → counts x ≤ 1
counts_most (Ok a) = omega arith
counts_most (Err e) = omega arith

-- ---- what is told of both

pub ruleset flush_rules = (tells_flush, flush_counts_error, held_made)

pub ruleset request_rules = (tells_requested, counts_request, late_request, held_made)
