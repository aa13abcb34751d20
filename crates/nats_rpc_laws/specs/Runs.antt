-- Whole runs: a caller, its core, and every poll of its calls, over any losses, late and repeated replies.
use Rattle.std.specs.Prelude.{◌≡◌, ℕ, ◌-◌, ◌<◌, ◌≤◌, zero, suc, ◌⊎◌, List, [], ◌∷◌, ◌++◌, length, Option, Some, None, Result}
use Rattle.nats_names.specs.declared.failed.NoMemory.{NoMemory}
use Rattle.nats_message.specs.declared.message.Message.{Message}
use Rattle.nats_history.specs.declared.config.Config.{Config}
use Rattle.nats_history.specs.History.{Step, History}
use Rattle.nats_session.specs.Handler.{HandedOut, StandsFor}
use Rattle.nats_core.specs.Journal.{Logged, caught_up}
use Rattle.nats_ask_laws.specs.Settled.{IsFirstReply, WasReplied}
use Rattle.nats_rpc.specs.declared.outcome.Outcome.{Outcome}
use Rattle.nats_rpc.specs.declared.asked.Attempt.{Attempt}
use Rattle.nats_rpc.specs.declared.asked.Stage.{Stage}
use Rattle.nats_rpc.specs.declared.asked.Stage.TheVariants as stages
use Rattle.nats_rpc.specs.declared.asked.Asked.{Asked}
use Rattle.nats_rpc.specs.Polling.{Calling, new_caller, with_call, MovesCall, Polls}
use Rattle.nats_rpc_laws.specs.Attempts.{IsReplied, IsLive}

-- how many tickets a core gave
abbrev pub tickets_given : Logged → ℕ
tickets_given core = core.session.parts.tickets.given

-- a poll by which a call was moved on: which one, the core once no step was due, and the call before and after
pub record Poll : Type 0 where
  pub call : ℕ
  pub core : Logged
  pub before : Asked
  pub after : Asked

abbrev pub poll_of : ℕ → Logged → Asked → Asked → Poll
poll_of call core before after = record { call = call; core = core; before = before; after = after }

-- a caller and a core as they can come to be, and the polls so far, the latest first: a new caller over any core;
-- calls are taken in and polled; and whatever else happens to the core, it takes back no ticket
pub data Run : List Poll → Calling → Logged → Type 0 where
  begins : (name : List ℕ) (tries patience : ℕ) (core : Logged) → Run [] (new_caller name tries patience) core
  takes_in : (polls : List Poll) (caller : Calling) (core : Logged) (subject payload : List ℕ)
      → Run polls caller core → Run polls (with_call subject payload caller) core
  elsewhere : (polls : List Poll) (caller : Calling) (core core' : Logged)
      → Run polls caller core → tickets_given core ≤ tickets_given core' → Run polls caller core'
  moves_on : (polls : List Poll) (call now : ℕ) (caller : Calling) (core : Logged) (asked : Asked)
      (r : Result (Unit {0}) NoMemory) (asked' : Asked) (caller' : Calling) (core' : Logged)
      → Run polls caller core → 0 < call → call ≤ length caller.calls
      → MovesCall call now caller core asked r asked' caller' core'
      → Run (poll_of call (caught_up core) asked asked' ∷ polls) caller' core'

-- a call stands behind so many others
abbrev pub StandsBehind : ℕ → Asked → List Asked → Type 0
StandsBehind place asked [] = ⊥
StandsBehind zero asked (first ∷ more) = asked ≡ first
StandsBehind (suc place) asked (first ∷ more) = StandsBehind place asked more

-- it is the call of a number
abbrev pub IsCall : ℕ → Asked → Calling → Type 0
IsCall zero asked caller = ⊥
IsCall (suc place) asked caller = StandsBehind place asked caller.calls

-- the ticket of the attempt that waits, if one does
abbrev pub ticket_in : Stage → Option ℕ
ticket_in (stages.Live attempt) = Some attempt.ticket
ticket_in stage = None

-- the attempt of a ticket waits
abbrev pub WaitsWith : ℕ → Asked → Type 0
WaitsWith ticket asked = ticket_in asked.stage ≡ Some ticket

-- ---- what polls found

-- a poll found that the attempt of a ticket was replied to by a message
pub record Settles (ticket : ℕ) (m : Message) (poll : Poll) : Type 0 where
  pub waited : WaitsWith ticket poll.before
  pub replied : IsReplied m poll.after

-- one of the polls of a call did
abbrev pub WasSettled : ℕ → ℕ → Message → List Poll → Type 0
WasSettled call ticket m [] = ⊥
WasSettled call ticket m (poll ∷ polls) =
    ((poll.call ≡ call) × Settles ticket m poll) ⊎ WasSettled call ticket m polls

-- a poll let the attempt of a ticket go: it waited before, and no more after
pub record LetsGo (ticket : ℕ) (poll : Poll) : Type 0 where
  pub waited : WaitsWith ticket poll.before
  pub gone : WaitsWith ticket poll.after → ⊥

abbrev pub WasLetGo : ℕ → List Poll → Type 0
WasLetGo ticket [] = ⊥
WasLetGo ticket (poll ∷ polls) = LetsGo ticket poll ⊎ WasLetGo ticket polls

-- ---- sentences

-- a poll is a step of a run
abbrev pub PollGoesOn : Type 0
PollGoesOn =
    (polls : List Poll) (call now : ℕ) (caller : Calling) (core : Logged) (result : Result Outcome NoMemory)
    (caller' : Calling) (core' : Logged)
    → Run polls caller core → 0 < call → call ≤ length caller.calls → Polls call now caller core result caller' core'
    → (more : List Poll) × Run (more ++ polls) caller' core'

-- a call that was replied to was so by one of its attempts: a poll found that
abbrev pub RepliedBy : Type 0
RepliedBy =
    (polls : List Poll) (caller : Calling) (core : Logged) (call : ℕ) (asked : Asked) (m : Message)
    → Run polls caller core → IsCall call asked caller → IsReplied m asked
    → (ticket : ℕ) × WasSettled call ticket m polls

-- and the attempt was replied to by the first message to number 0, since its request was handled, with the subject of
-- its reply
abbrev pub FirstOfAttempt : Type 0
FirstOfAttempt =
    (polls : List Poll) (caller : Calling) (core : Logged) (call ticket : ℕ) (m : Message) → Run polls caller core
    → WasSettled call ticket m polls
    → (poll : Poll) × (poll.call ≡ call) × Settles ticket m poll
    × ((c : Config) (out : HandedOut) (h : History) → StandsFor c out h poll.core.session → WasReplied c ticket m h)

-- no message settles two calls: what is the first reply to attempts of two calls is so to one call
abbrev pub OneCall : Type 0
OneCall =
    (polls : List Poll) (caller : Calling) (core : Logged) (call other ticket late : ℕ) (m n : Message)
    (c : Config) (h : History) (step : Step)
    → Run polls caller core → WasSettled call ticket m polls → WasSettled other late n polls
    → IsFirstReply c ticket m h step → IsFirstReply c late n h step → call ≡ other

-- an attempt that a poll let go, as its deadline came or as it settled the call, waits no more, whatever comes: so
-- neither a late reply to it nor a repeated one settles a call
abbrev pub NoneLate : Type 0
NoneLate =
    (polls : List Poll) (caller : Calling) (core : Logged) (ticket call : ℕ) (asked : Asked)
    → Run polls caller core → WasLetGo ticket polls → IsCall call asked caller → WaitsWith ticket asked → ⊥
