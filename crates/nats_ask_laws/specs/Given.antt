-- The call that a ticket was given to, and the one that is handled for it.
use Rattle.std.specs.Prelude.{◌≡◌, ℕ, suc, true, ◌⊎◌, List, [], ◌∷◌, ◌++◌, Option, Some, None}
use Rattle.nats_message.specs.declared.message.Message.{Message}
use Rattle.nats_history.specs.declared.config.Config.{Config}
use Rattle.nats_history.specs.declared.call.Call.{Call}
use Rattle.nats_history.specs.declared.call.Call.TheVariants.{Request}
use Rattle.nats_history.specs.declared.turn.Turn.{Turn}
use Rattle.nats_history.specs.declared.waits.Waits.TheVariants as waits
use Rattle.nats_history.specs.Queue.{first}
use Rattle.nats_history.specs.History.{Step, accepted, handled, History, takes_ticket, waits_as, waiting_calls, inbox_of}
use Rattle.nats_history.specs.Schedule.{steps}
use Rattle.nats_history.specs.Tickets.{tickets}
use Rattle.nats_ask_laws.specs.Settled.{WasReplied}

-- a step gives a ticket to a call, which is accepted
abbrev pub Gives : Config → ℕ → Call → History → Step → Type 0
Gives c ticket call h (accepted other) =
    (other ≡ call) × (takes_ticket call ≡ true) × (ticket ≡ suc (tickets c h).given)
Gives c ticket call h step = ⊥

-- one of the steps does
abbrev pub WasGiven : Config → ℕ → Call → History → Type 0
WasGiven c ticket call [] = ⊥
WasGiven c ticket call ((place, step) ∷ h) = Gives c ticket call h step ⊎ WasGiven c ticket call h

-- a call that is handled is the oldest that waits
abbrev pub HandlesFirst : History → Step → Type 0
HandlesFirst h (handled call) = first (waiting_calls h) ≡ Some call
HandlesFirst h step = Unit {0}

-- each call that is handled is the oldest that waits
abbrev pub InOrder : History → Type 0
InOrder [] = Unit {0}
InOrder ((place, step) ∷ h) = HandlesFirst h step × InOrder h

-- a step handles this request for a ticket: from then on it waits for its reply
abbrev pub HandlesFor : Config → ℕ → Call → History → Step → Type 0
HandlesFor c ticket call h (handled other) =
    (other ≡ call) × (waits_as call ≡ Some waits.Request) × (first (tickets c h).queued ≡ Some waits.Request)
    × (ticket ≡ suc (tickets c h).handled)
HandlesFor c ticket call h step = ⊥

-- a ticket is given to one call
abbrev pub GivenOnce : Type 0
GivenOnce = (c : Config) (h : History) (ticket : ℕ) (call other : Call)
    → WasGiven c ticket call h → WasGiven c ticket other h → call ≡ other

-- in a history that turns make each call that is handled is the oldest that waits
abbrev pub TurnsInOrder : Type 0
TurnsInOrder = (c : Config) (turns : List Turn) → InOrder (steps c turns)

-- the request that is handled for a ticket is the call that the ticket was given to
abbrev pub HandledAsGiven : Type 0
HandledAsGiven = (c : Config) (h : History) (ticket : ℕ) (call : Call) (step : Step)
    → InOrder h → HandlesFirst h step → HandlesFor c ticket call h step → WasGiven c ticket call h

-- the subject of the reply to a call, where it is a request: that of its token
abbrev pub reply_of : Config → Call → Option (List ℕ)
reply_of c (Request to payload headers token) = Some (inbox_of c token)
reply_of c call = None

-- a message by which a ticket settled as replied has the subject of the call that the ticket was given to
abbrev pub RepliedAsGiven : Type 0
RepliedAsGiven = (c : Config) (h : History) (ticket : ℕ) (call : Call) (m : Message)
    → InOrder h → WasGiven c ticket call h → WasReplied c ticket m h → reply_of c call ≡ Some m.subject

-- a ticket that was given stays given to its call, whatever comes
abbrev pub GivenForGood : Type 0
GivenForGood = (c : Config) (h later : History) (ticket : ℕ) (call : Call)
    → WasGiven c ticket call h → WasGiven c ticket call (later ++ h)
