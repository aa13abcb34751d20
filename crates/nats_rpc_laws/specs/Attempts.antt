-- Sentences about what settles a call, over any losses, late and repeated replies.
use Rattle.std.specs.Prelude.{◌≡◌, ℕ, false, ◌⊎◌, Some, Result}
use Rattle.nats_names.specs.declared.failed.NoMemory.{NoMemory}
use Rattle.nats_message.specs.declared.message.Message.{Message}
use Rattle.nats_history.specs.declared.config.Config.{Config}
use Rattle.nats_history.specs.declared.call.CallReply.TheVariants as replies
use Rattle.nats_history.specs.History.{History}
use Rattle.nats_tickets.specs.Kept.{reply_in}
use Rattle.nats_session.specs.Handler.{HandedOut, settled_tickets, StandsFor}
use Rattle.nats_session.specs.Laws.{stands_in}
use Rattle.nats_core.specs.Journal.{Logged}
use Rattle.nats_ask_laws.specs.Settled.{WasReplied}
use Rattle.nats_rpc.specs.declared.outcome.Outcome.TheVariants as outcomes
use Rattle.nats_rpc.specs.declared.asked.Attempt.{Attempt}
use Rattle.nats_rpc.specs.declared.asked.Stage.{Stage}
use Rattle.nats_rpc.specs.declared.asked.Stage.TheVariants as stages
use Rattle.nats_rpc.specs.declared.asked.Asked.{Asked}
use Rattle.nats_rpc.specs.declared.terms.Terms.{Terms}
use Rattle.nats_rpc.specs.Polling.{Moves}

-- a call was replied to by this message
abbrev pub IsReplied : Message → Asked → Type 0
IsReplied m asked = asked.stage ≡ stages.Settled (outcomes.Replied m)

-- an attempt of it waits
abbrev pub IsLive : Attempt → Asked → Type 0
IsLive attempt asked = asked.stage ≡ stages.Live attempt

-- the attempt of a call was replied to by this message: the first one to number 0, since the attempt's request was
-- handled, with the subject of its reply
pub record RepliedSo (c : Config) (h : History) (m : Message) (asked : Asked) : Type 0 where
  pub attempt : Attempt
  pub live : IsLive attempt asked
  pub first : WasReplied c attempt.ticket m h

-- a poll answers a message only where the call was replied to by it before, or an attempt of it was
abbrev pub RepliedOnlySo : Type 0
RepliedOnlySo =
    (terms : Terms) (now numbers : ℕ) (asked : Asked) (old : Logged) (r : Result (Unit {0}) NoMemory)
    (numbers' : ℕ) (asked' : Asked) (new : Logged) (c : Config) (out : HandedOut) (h : History) (m : Message)
    → Moves terms now numbers asked old r numbers' asked' new → StandsFor c out h old.session → IsReplied m asked'
    → IsReplied m asked ⊎ RepliedSo c h m asked

-- and wherever an attempt of it was, so that its ticket settled by it, and the reply was not handed out
abbrev pub RepliedWhere : Type 0
RepliedWhere =
    (terms : Terms) (now numbers : ℕ) (asked : Asked) (old : Logged) (r : Result (Unit {0}) NoMemory)
    (numbers' : ℕ) (asked' : Asked) (new : Logged) (c : Config) (out : HandedOut) (h : History) (m : Message)
    (attempt : Attempt)
    → Moves terms now numbers asked old r numbers' asked' new → StandsFor c out h old.session → IsLive attempt asked
    → stands_in attempt.ticket out.tickets ≡ false
    → reply_in attempt.ticket (settled_tickets c h) ≡ Some (replies.Replied m) → IsReplied m asked'

-- a call that was replied to stays so
abbrev pub RepliedStays : Type 0
RepliedStays =
    (terms : Terms) (now numbers : ℕ) (asked : Asked) (old : Logged) (r : Result (Unit {0}) NoMemory)
    (numbers' : ℕ) (asked' : Asked) (new : Logged) (m : Message)
    → Moves terms now numbers asked old r numbers' asked' new → IsReplied m asked → IsReplied m asked'
