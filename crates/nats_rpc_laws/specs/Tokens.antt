-- The token of an attempt, and the subject of the message that replies to it.
use Rattle.std.specs.Prelude.{◌≡◌, ℕ, suc, ◌⊎◌, ◌++◌, Result}
use Rattle.nats_names.specs.declared.failed.NoMemory.{NoMemory}
use Rattle.nats_message.specs.declared.message.Message.{Message}
use Rattle.nats_history.specs.declared.config.Config.{Config}
use Rattle.nats_history.specs.History.{History, inbox_of}
use Rattle.nats_session.specs.Handler.{HandedOut, StandsFor}
use Rattle.nats_core.specs.Journal.{Logged}
use Rattle.nats_ask_laws.specs.Settled.{WasReplied}
use Rattle.nats_ask_laws.specs.Given.{WasGiven, InOrder}
use Rattle.nats_rpc.specs.declared.asked.Attempt.{Attempt}
use Rattle.nats_rpc.specs.declared.asked.Stage.TheVariants as stages
use Rattle.nats_rpc.specs.declared.asked.Asked.{Asked}
use Rattle.nats_rpc.specs.declared.terms.Terms.{Terms}
use Rattle.nats_rpc.specs.Calls.{token_of, request_of, rested}
use Rattle.nats_rpc.specs.Polling.{Sends, Moves}
use Rattle.nats_rpc_laws.specs.Attempts.{IsLive}

-- an attempt that a poll made was sent by it
abbrev pub MadeBySending : Type 0
MadeBySending =
    (terms : Terms) (now numbers : ℕ) (asked : Asked) (old : Logged) (r : Result (Unit {0}) NoMemory)
    (numbers' : ℕ) (asked' : Asked) (new : Logged) (attempt : Attempt)
    → Moves terms now numbers asked old r numbers' asked' new → IsLive attempt asked'
    → IsLive attempt asked ⊎ ((mid : Logged) × Sends terms now numbers (rested asked) mid numbers' asked' new)

-- whatever history a core stood for, it stands for a longer one now, in which the ticket was given to the request of
-- the attempt of a number
abbrev pub SentIn : Terms → ℕ → Asked → ℕ → Logged → Config → HandedOut → History → Type 0
SentIn terms number asked ticket new c out h = (later : History) × StandsFor c out (later ++ h) new.session
    × WasGiven c ticket (request_of terms number asked) (later ++ h)

-- the request of an attempt was given the attempt's ticket
abbrev pub SentAs : Type 0
SentAs =
    (terms : Terms) (now numbers : ℕ) (asked : Asked) (old : Logged) (numbers' : ℕ) (asked' : Asked) (new : Logged)
    (attempt : Attempt) (c : Config) (out : HandedOut) (h : History)
    → asked.stage ≡ stages.Resting → Sends terms now numbers asked old numbers' asked' new → IsLive attempt asked'
    → StandsFor c out h old.session → SentIn terms (suc numbers) asked attempt.ticket new c out h

-- a message that replies to it, however long the history gets, has the subject of the attempt's own token: the inbox,
-- the caller's name and the attempt's number
abbrev pub SubjectOfAttempt : Type 0
SubjectOfAttempt =
    (terms : Terms) (now numbers : ℕ) (asked : Asked) (old : Logged) (numbers' : ℕ) (asked' : Asked) (new : Logged)
    (attempt : Attempt) (c : Config) (out : HandedOut) (h : History)
    → asked.stage ≡ stages.Resting → Sends terms now numbers asked old numbers' asked' new → IsLive attempt asked'
    → StandsFor c out h old.session
    → (later : History) × StandsFor c out (later ++ h) new.session
    × ((more : History) (m : Message) → InOrder (more ++ (later ++ h))
    → WasReplied c attempt.ticket m (more ++ (later ++ h)) → m.subject ≡ inbox_of c (token_of terms.name (suc numbers)))
