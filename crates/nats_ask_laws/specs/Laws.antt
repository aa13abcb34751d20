-- Sentences about requests and their replies, whatever the history.
use Rattle.std.specs.Prelude.{◌≡◌, ℕ, false, List, ◌++◌, length, Some, None}
use Rattle.nats_message.specs.declared.message.Message.{Message}
use Rattle.nats_lines.specs.Operations.{Operation}
use Rattle.nats_history.specs.declared.config.Config.{Config}
use Rattle.nats_history.specs.declared.call.CallReply.{CallReply}
use Rattle.nats_history.specs.declared.call.CallReply.TheVariants.{Replied}
use Rattle.nats_history.specs.History.{Step, History, waiting_bytes}
use Rattle.nats_history.specs.Tickets.{tickets, settles, settled_by}
use Rattle.nats_tickets.specs.Kept.{reply_in}
use Rattle.nats_session.specs.Handler.{Seen, HandedOut, settled_tickets, StandsFor}
use Rattle.nats_session.specs.Laws.{stands_in}
use Rattle.nats_ask_laws.specs.Asked.{WaitsAt, WasAsked}
use Rattle.nats_ask_laws.specs.Settled.{WasReplied}

-- a request that waits for a reply was handled, and no message that could settle it was read since
abbrev pub SinceAsked : Type 0
SinceAsked =
    (c : Config) (h : History) (ticket : ℕ) (subject : List ℕ) → WaitsAt ticket subject (tickets c h).asking
    → WasAsked c ticket subject h

-- no two requests wait for a reply to one subject
abbrev pub OneSubject : Type 0
OneSubject =
    (c : Config) (h : History) (ticket other : ℕ) (subject : List ℕ)
    → WaitsAt ticket subject (tickets c h).asking → WaitsAt other subject (tickets c h).asking → ticket ≡ other

-- a message that could settle a request could settle no other
abbrev pub OneAsked : Type 0
OneAsked =
    (c : Config) (h : History) (ticket other : ℕ) (subject : List ℕ)
    → WasAsked c ticket subject h → WasAsked c other subject h → ticket ≡ other

-- a ticket that settled as replied by a message did so by the first one to number 0, since its request was handled,
-- with the subject of the reply
abbrev pub FirstReply : Type 0
FirstReply =
    (c : Config) (h : History) (ticket : ℕ) (m : Message)
    → reply_in ticket (settled_tickets c h) ≡ Some (Replied m) → WasReplied c ticket m h

-- one operation that is read settles one ticket at most
abbrev pub OneByOne : Type 0
OneByOne =
    (operation : Operation) (asking : List (ℕ × List ℕ)) (ticket other : ℕ) (reply late : CallReply)
    → reply_in ticket (settled_by operation asking) ≡ Some reply
    → reply_in other (settled_by operation asking) ≡ Some late → ticket ≡ other

-- a ticket that settled, by its deadline or otherwise, keeps its reply, and no later step settles it
abbrev pub SettledForGood : Type 0
SettledForGood =
    (c : Config) (h later : History) (ticket : ℕ) (reply : CallReply)
    → reply_in ticket (settled_tickets c h) ≡ Some reply
    → (reply_in ticket (settled_tickets c (later ++ h)) ≡ Some reply)
    × ((step : Step)
    → reply_in ticket (settles c (length (waiting_bytes c (later ++ h))) step (tickets c (later ++ h))) ≡ None)

-- a reply that waits to be handed out is the one by which its ticket settled; and of a ticket whose reply was not
-- handed out, the reply by which it settled waits
abbrev pub HeldReply : Type 0
HeldReply =
    (c : Config) (out : HandedOut) (h : History) (seen : Seen) (ticket : ℕ) (reply : CallReply) → StandsFor c out h seen
    → (reply_in ticket seen.ready ≡ Some reply → reply_in ticket (settled_tickets c h) ≡ Some reply)
    × (stands_in ticket out.tickets ≡ false → reply_in ticket (settled_tickets c h) ≡ Some reply
    → reply_in ticket seen.ready ≡ Some reply)
