-- What the replies of tickets come to, and which of the calls that waited for them count.
use Rattle.std.proofs.Common.{◌≡◌, ℕ, ◌+◌, ◌≤◌, Bool, true, Result, Ok, Err, IfErr, refl, arith}
use Rattle.nats_history.specs.declared.call.Call.{Call}
use Rattle.nats_history.specs.declared.call.Call.TheVariants.{Flush}
use Rattle.nats_history.specs.declared.call.CallReply.{CallReply}
use Rattle.nats_history.specs.declared.call.CallReply.TheVariants as reply
use Rattle.nats_refusals.specs.declared.refusal.Refusal.{Refusal}
use Rattle.nats_refusals.specs.declared.refusal.Refusal.TheVariants.{InvalidSubject, InvalidQueueName, TooLarge, Closed, NoNumber, NoPart, Full, FlushFailed, NoResponders, TimedOut, Dropped, NoMemory}
use Rattle.nats_refusals.specs.Refusals.{flushed_of, asked_of, MayRefuse, MayFailFlush, MayFailAsk, counts_flush, CountsAsk}
use Rattle.nats_hub.specs.Late.{early_of, IsFailed}

-- ---- flushes

-- a flush whose ticket settled counts, and if it came to nothing it failed
pub flush_counts : (r : CallReply) → counts_flush (flushed_of r) ≡ 1
flush_counts reply.Flushed = refl
flush_counts other = refl

pub flush_may : (r : CallReply) → IfErr (flushed_of r) (λ e. MayFailFlush Flush e)
flush_may reply.Flushed = tt
flush_may other = tt

-- one that was refused does not count
pub refused_counts : (A : Type 0) (call : Call) (r : Refusal) → MayRefuse true call r → counts_flush {A = A} (Err r) ≡ 0
refused_counts A call FlushFailed may = absurd may
refused_counts A call refusal may = refl

pub refused_flush : (call : Call) (r : Refusal) → MayRefuse true call r → MayFailFlush call r
refused_flush call FlushFailed may = tt
refused_flush call refusal may = may

-- ---- requests

pub asked_failed : (r : CallReply) → IfErr (asked_of r) (λ e. IsFailed e)
asked_failed (reply.Replied m) = tt
asked_failed other = tt

pub early_failed : (r : CallReply) → IfErr (early_of (asked_of r)) (λ e. IsFailed e)
early_failed (reply.Replied m) = tt
early_failed other = tt

-- before its own time is over, none is told as late
pub early_in_time : (r : CallReply) → IfErr (early_of (asked_of r)) (λ e. e ≡ TimedOut → ⊥)
early_in_time (reply.Replied m) = tt
early_in_time other = λ is. cc

-- a request that was accepted counts, whatever comes of it
failed_counts : (A : Type 0) (before after : ℕ) (r : Refusal) → IsFailed r → after ≡ before + 1 → CountsAsk {A = A} (Err r) before after
failed_counts A before after NoResponders is up = up
failed_counts A before after TimedOut is up = up
failed_counts A before after Dropped is up = up
failed_counts A before after NoMemory is up = (omega (arith, up), omega (arith, up))
failed_counts A before after refusal is up = absurd is

failed_ask : (call : Call) (r : Refusal) → IsFailed r → MayFailAsk call r
failed_ask call NoResponders is = tt
failed_ask call TimedOut is = tt
failed_ask call Dropped is = tt
failed_ask call NoMemory is = tt
failed_ask call refusal is = absurd is

pub answered_counts : {A : Type 0} (before after : ℕ) (x : Result A Refusal) → IfErr x (λ e. IsFailed e) → after ≡ before + 1 → CountsAsk x before after
answered_counts {A} before after (Ok m) is up = up
answered_counts {A} before after (Err r) is up = failed_counts A before after r is up

pub answered_ask : {A : Type 0} (call : Call) (x : Result A Refusal) → IfErr x (λ e. IsFailed e) → IfErr x (λ e. MayFailAsk call e)
answered_ask call (Ok m) is = tt
answered_ask call (Err r) is = failed_ask call r is

-- one that was refused does not
pub refused_ask_counts : (A : Type 0) (call : Call) (before after : ℕ) (r : Refusal) → MayRefuse true call r → after ≡ before + 0 → CountsAsk {A = A} (Err r) before after
refused_ask_counts A call before after NoResponders may up = absurd may
refused_ask_counts A call before after TimedOut may up = absurd may
refused_ask_counts A call before after Dropped may up = absurd may
refused_ask_counts A call before after NoMemory may up = (omega (arith, up), omega (arith, up))
refused_ask_counts A call before after refusal may up = omega (arith, up)

pub refused_ask : (call : Call) (r : Refusal) → MayRefuse true call r → MayFailAsk call r
refused_ask call NoResponders may = tt
refused_ask call TimedOut may = tt
refused_ask call Dropped may = tt
refused_ask call refusal may = may

-- ---- what is told of both

pub ruleset flush_rules = (flush_counts, flush_may, refused_counts, refused_flush)

pub ruleset ask_rules = (answered_counts, answered_ask, refused_ask_counts, refused_ask)
