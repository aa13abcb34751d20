-- What a poll does to a call and to the core.
use Rattle.std.specs.Prelude.{◌≡◌, ◌≢◌, ℕ, suc, ◌+◌, ◌-◌, ◌^◌, ◌<◌, ◌≤◌, Bool, true, false, ◌⊎◌, List, [], ◌∷◌, ◌++◌, Option, Some, None, is_some, Result, Ok, Err, IsOk, IsErr, slice_set, slice_index_or, if◌then◌else◌}
use Rattle.nats_names.specs.declared.failed.NoMemory.{NoMemory}
use Rattle.nats_history.specs.declared.call.CallReply.{CallReply}
use Rattle.nats_history.specs.declared.call.CallReply.TheVariants as replies
use Rattle.nats_history.specs.declared.turn.Turn.TheVariants as turns
use Rattle.nats_history.specs.Schedule.{due}
use Rattle.nats_tickets.specs.Kept.{reply_in, without}
use Rattle.nats_core.specs.declared.answers.StepError.{StepError}
use Rattle.nats_core.specs.declared.answers.StepError.TheVariants as refused
use Rattle.nats_core.specs.declared.entry.StepReply.{StepReply}
use Rattle.nats_core.specs.declared.entry.StepReply.TheVariants as steps
use Rattle.nats_core.specs.Journal.{Logged, with_session, caught_up}
use Rattle.nats_core.specs.Calls.{parts_in, PlaysDue, Steps, Submits}
use Rattle.nats_rpc.specs.declared.outcome.Outcome.{Outcome}
use Rattle.nats_rpc.specs.declared.outcome.Outcome.TheVariants as outcomes
use Rattle.nats_rpc.specs.declared.asked.Attempt.{Attempt}
use Rattle.nats_rpc.specs.declared.asked.Stage.{Stage}
use Rattle.nats_rpc.specs.declared.asked.Stage.TheVariants as stages
use Rattle.nats_rpc.specs.declared.asked.Asked.{Asked}
use Rattle.nats_rpc.specs.declared.terms.Terms.{Terms}
use Rattle.nats_rpc.specs.Calls.{request_of, is_over, outcome_of, outcome_in, takes_memory, settled_as, rested, is_numbered, answered}

-- ---- a caller as it is seen

-- its terms, how many numbers of attempts are used up, and its calls by their numbers
pub record Calling : Type 0 where
  pub terms : Terms
  pub numbers : ℕ
  pub calls : List Asked

abbrev pub calling_of : Terms → ℕ → List Asked → Calling
calling_of terms numbers calls = record { terms = terms; numbers = numbers; calls = calls }

-- ---- one call, over a core where no step is due

-- the reply of a ticket was handed out, if it had one
abbrev pub taken_out : ℕ → Logged → Logged
taken_out ticket core = with_session (record core.session { ready = without ticket core.session.ready }) core

-- the deadline of a ticket was played, where it is of a request; else it is out of turn
abbrev pub PlaysDeadline : ℕ → Logged → Logged → Type 0
PlaysDeadline ticket old new =
    Steps old (turns.Deadline ticket) (Ok steps.Done) new
    ⊎ Steps old (turns.Deadline ticket) (Err refused.OutOfTurn) new

-- memory was wanting for a turn
abbrev pub is_wanting : Result StepReply StepError → Bool
is_wanting (Err refused.NoMemory) = true
is_wanting played = false

-- and its reply was handed out
pub record Expires (ticket : ℕ) (old new : Logged) : Type 0 where
  pub mid : Logged
  pub steps : PlaysDeadline ticket old mid
  pub taken : new ≡ taken_out ticket mid

abbrev pub numbers_after : CallReply → ℕ → ℕ
numbers_after reply numbers = if is_numbered reply then suc numbers else numbers

-- the request of the next attempt was submitted, and its reply is what the call and the numbers go by
pub record Sends (terms : Terms) (now numbers : ℕ) (asked : Asked) (old : Logged) (numbers' : ℕ) (asked' : Asked)
    (new : Logged) : Type 0 where
  pub reply : CallReply
  pub submits : Submits old (request_of terms (suc numbers) asked) (Ok reply) new
  pub call : asked' ≡ answered now reply asked
  pub used : numbers' ≡ numbers_after reply numbers

-- a call without an attempt, at this time
pub data Tries (terms : Terms) (now numbers : ℕ) (asked : Asked) (old : Logged) (r : Result (Unit {0}) NoMemory)
    (numbers' : ℕ) (asked' : Asked) (new : Logged) : Type 0 where
  -- no try is left, and it timed out
  spent : terms.tries ≤ asked.tried → IsOk r → asked' ≡ settled_as outcomes.TimedOut asked → numbers' ≡ numbers
      → new ≡ old → Tries terms now numbers asked old r numbers' asked' new
  -- no number is left, and it is refused
  unnumbered : asked.tried < terms.tries → numbers ≡ 2 ^ 64 - 1 → IsOk r
      → asked' ≡ settled_as (outcomes.Refused replies.NoNumber) asked → numbers' ≡ numbers → new ≡ old
      → Tries terms now numbers asked old r numbers' asked' new
  -- its next request was submitted
  sent : asked.tried < terms.tries → numbers < 2 ^ 64 - 1 → IsOk r
      → Sends terms now numbers asked old numbers' asked' new
      → Tries terms now numbers asked old r numbers' asked' new
  -- memory was wanting for that
  unsent : asked.tried < terms.tries → numbers < 2 ^ 64 - 1 → IsErr r → asked' ≡ asked → numbers' ≡ numbers
      → PlaysDue old new → Tries terms now numbers asked old r numbers' asked' new

-- a call with an attempt, at this time
pub data Waits (terms : Terms) (now : ℕ) (attempt : Attempt) (numbers : ℕ) (asked : Asked) (old : Logged)
    (r : Result (Unit {0}) NoMemory) (numbers' : ℕ) (asked' : Asked) (new : Logged) : Type 0 where
  -- the attempt's ticket settled, and so does the call
  settles : (reply : CallReply) → reply_in attempt.ticket old.session.ready ≡ Some reply → IsOk r
      → asked' ≡ settled_as (outcome_of reply) asked → numbers' ≡ numbers → new ≡ taken_out attempt.ticket old
      → Waits terms now attempt numbers asked old r numbers' asked' new
  -- it still waits for its reply
  waits : reply_in attempt.ticket old.session.ready ≡ None → is_over terms.patience attempt now ≡ false → IsOk r
      → asked' ≡ asked → numbers' ≡ numbers → new ≡ old
      → Waits terms now attempt numbers asked old r numbers' asked' new
  -- it waited as long as it may: its deadline was played, and it is no attempt of the call any more
  over : reply_in attempt.ticket old.session.ready ≡ None → is_over terms.patience attempt now ≡ true
      → (mid : Logged) → Expires attempt.ticket old mid
      → Tries terms now numbers (rested asked) mid r numbers' asked' new
      → Waits terms now attempt numbers asked old r numbers' asked' new
  -- memory was wanting for its deadline
  unended : reply_in attempt.ticket old.session.ready ≡ None → is_over terms.patience attempt now ≡ true → IsErr r
      → asked' ≡ asked → numbers' ≡ numbers → Steps old (turns.Deadline attempt.ticket) (Err refused.NoMemory) new
      → Waits terms now attempt numbers asked old r numbers' asked' new

-- a call, at this time, by how far it is
abbrev pub MovesFrom : Stage → Terms → ℕ → ℕ → Asked → Logged → Result (Unit {0}) NoMemory → ℕ → Asked → Logged
    → Type 0
MovesFrom (stages.Settled outcome) terms now numbers asked old r numbers' asked' new =
    IsOk r × (asked' ≡ asked) × (numbers' ≡ numbers) × (new ≡ old)
MovesFrom (stages.Live attempt) terms now numbers asked old r numbers' asked' new =
    Waits terms now attempt numbers asked old r numbers' asked' new
MovesFrom stages.Resting terms now numbers asked old r numbers' asked' new =
    Tries terms now numbers asked old r numbers' asked' new

-- the same, by how far the call is
abbrev pub Moves : Terms → ℕ → ℕ → Asked → Logged → Result (Unit {0}) NoMemory → ℕ → Asked → Logged → Type 0
Moves terms now numbers asked old r numbers' asked' new =
    MovesFrom asked.stage terms now numbers asked old r numbers' asked' new

-- ---- a whole caller

-- as it is made: it has no calls
abbrev pub new_caller : List ℕ → ℕ → ℕ → Calling
new_caller name tries patience =
    calling_of (record { name = name; tries = tries; patience = patience }) 0 []

abbrev pub new_call : List ℕ → List ℕ → Asked
new_call subject payload = record { subject = subject; payload = payload; tried = 0; stage = stages.Resting }

-- one more call was taken in
abbrev pub with_call : List ℕ → List ℕ → Calling → Calling
with_call subject payload caller = record caller { calls = caller.calls ++ new_call subject payload ∷ [] }

-- what is told of a call that was moved on: what it came to. Memory may be wanting on the way, or for a copy of an
-- outcome that holds a message or a reply, and for nothing else
abbrev pub Tells : Result (Unit {0}) NoMemory → Outcome → Result Outcome NoMemory → Type 0
Tells (Ok moved) outcome (Ok told) = told ≡ outcome
Tells (Ok moved) outcome (Err wanting) = takes_memory outcome ≡ true
Tells (Err wanting) outcome (Ok told) = ⊥
Tells (Err wanting) outcome (Err told) = Unit {0}

-- the call of a number was moved on at a time, once no step of the core was due
pub record MovesCall (call now : ℕ) (caller : Calling) (old : Logged) (asked : Asked) (r : Result (Unit {0}) NoMemory)
    (asked' : Asked) (caller' : Calling) (new : Logged) : Type 0 where
  pub at : asked ≡ slice_index_or caller.calls (call - 1) asked
  pub moves : Moves caller.terms now caller.numbers asked (caught_up old) r caller'.numbers asked' new
  pub terms : caller'.terms ≡ caller.terms
  pub calls : caller'.calls ≡ slice_set caller.calls (call - 1) asked'

-- a poll of the call of a number at a time: once no step of the core is due, the call is moved on, and what it came to
-- is told; or memory was wanting for a due step, and the caller stayed as it was
pub data Polls (call now : ℕ) (caller : Calling) (old : Logged) (result : Result Outcome NoMemory) (caller' : Calling)
    (new : Logged) : Type 0 where
  behind : IsErr result → caller' ≡ caller → PlaysDue old new → is_some (due (parts_in new)) ≡ true
      → Polls call now caller old result caller' new
  polled : (asked asked' : Asked) (r : Result (Unit {0}) NoMemory)
      → MovesCall call now caller old asked r asked' caller' new
      → Tells r (outcome_in asked'.stage) result
      → Polls call now caller old result caller' new
