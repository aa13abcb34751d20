-- By what calls are replied to.
use Rattle.std.proofs.Common.{◌≡◌, ℕ, suc, ◌⊎◌, inl, inr, List, [], ◌∷◌, ◌++◌, Option, Some, refl, sym, ◌∙◌, ap}
use Rattle.nats_message.specs.declared.message.Message.{Message}
use Rattle.nats_lines.specs.Operations.{Operation, message, info_op, error_op, ok_op, ping_op, pong_op}
use Rattle.nats_history.specs.declared.config.Config.{Config}
use Rattle.nats_history.specs.declared.call.Call.{Call}
use Rattle.nats_history.specs.declared.call.Call.TheVariants.{Publish, Subscribe, Unsubscribe, Limit, Drain, DrainAll, Flush, Request, DropSub, Reconnect}
use Rattle.nats_history.specs.History.{Step, opened, fed, read, ticked, taken, accepted, handled, took, gone, passed, link_end, closed, History}
use Rattle.nats_history.specs.Tickets.{tickets}
use Rattle.nats_ask_laws.specs.Asked.{Asks, WasAsked}
use Rattle.nats_ask_laws.specs.Settled.{IsFirstReply, WasReplied}
use Rattle.nats_ask_laws.specs.Given.{WasGiven, HandlesFirst, InOrder, reply_of, RepliedAsGiven, GivenForGood}
use Rattle.nats_ask_laws.proofs.Queues.{given_once, handled_as_given}

pub given_for_good : GivenForGood
given_for_good c h [] ticket call given = given
given_for_good c h ((place, step) ∷ later) ticket call given = inr (given_for_good c h later ticket call given)

-- the call of a ticket whose reply is to come to a subject
abbrev pub Found : Config → ℕ → List ℕ → History → Type 0
Found c ticket subject h = (call : Call) × WasGiven c ticket call h × (reply_of c call ≡ Some subject)

found_on : (c : Config) (ticket : ℕ) (subject : List ℕ) (place : ℕ) (step : Step) (h : History)
    → Found c ticket subject h → Found c ticket subject ((place, step) ∷ h)
found_on c ticket subject place step h (call, given, is) = (call, inr given, is)

call_found : (c : Config) (h : History) (ticket : ℕ) (subject : List ℕ) (call : Call) → InOrder h
    → HandlesFirst h (handled call) → Asks c ticket subject (tickets c h) (handled call) → Found c ticket subject h
call_found c h ticket subject (Request to payload headers token) order oldest (queued, is, number) = (
  Request to payload headers token,
  handled_as_given c h ticket (Request to payload headers token) (handled (Request to payload headers token)) order
      oldest (refl, refl, queued, number),
  ap Some is,
)
call_found c h ticket subject (Publish m) order oldest none = absurd none
call_found c h ticket subject (Subscribe to group) order oldest none = absurd none
call_found c h ticket subject (Unsubscribe sid) order oldest none = absurd none
call_found c h ticket subject (Limit sid n) order oldest none = absurd none
call_found c h ticket subject (Drain sid) order oldest none = absurd none
call_found c h ticket subject DrainAll order oldest none = absurd none
call_found c h ticket subject Flush order oldest none = absurd none
call_found c h ticket subject (DropSub sid) order oldest none = absurd none
call_found c h ticket subject Reconnect order oldest none = absurd none

asks_found : (c : Config) (h : History) (ticket : ℕ) (subject : List ℕ) (step : Step) → InOrder h → HandlesFirst h step
    → Asks c ticket subject (tickets c h) step → Found c ticket subject h
asks_found c h ticket subject (handled call) order oldest asks = call_found c h ticket subject call order oldest asks
asks_found c h ticket subject (read operation) order oldest none = absurd none
asks_found c h ticket subject (opened info) order oldest none = absurd none
asks_found c h ticket subject (fed bytes) order oldest none = absurd none
asks_found c h ticket subject ticked order oldest none = absurd none
asks_found c h ticket subject (taken n) order oldest none = absurd none
asks_found c h ticket subject (accepted other) order oldest none = absurd none
asks_found c h ticket subject (took sid) order oldest none = absurd none
asks_found c h ticket subject (gone sid) order oldest none = absurd none
asks_found c h ticket subject (passed other) order oldest none = absurd none
asks_found c h ticket subject (link_end word) order oldest none = absurd none
asks_found c h ticket subject closed order oldest none = absurd none

asked_found : (c : Config) (h : History) (ticket : ℕ) (subject : List ℕ) → InOrder h → WasAsked c ticket subject h
    → Found c ticket subject h
asked_found c [] ticket subject order none = absurd none
asked_found c ((place, step) ∷ h) ticket subject order (inl asks) =
    found_on c ticket subject place step h (asks_found c h ticket subject step order.1 order.0 asks)
asked_found c ((place, step) ∷ h) ticket subject order (inr (leaves, asked)) =
    found_on c ticket subject place step h (asked_found c h ticket subject order.1 asked)

read_found : (c : Config) (h : History) (ticket : ℕ) (m : Message) (operation : Operation) → InOrder h
    → IsFirstReply c ticket m h (read operation) → Found c ticket m.subject h
read_found c h ticket m (message sid came) order (zero, is, asked) = asked_found c h ticket m.subject order asked
read_found c h ticket m (info_op info) order none = absurd none
read_found c h ticket m (error_op error) order none = absurd none
read_found c h ticket m ok_op order none = absurd none
read_found c h ticket m ping_op order none = absurd none
read_found c h ticket m pong_op order none = absurd none

step_found : (c : Config) (h : History) (ticket : ℕ) (m : Message) (step : Step) → InOrder h
    → IsFirstReply c ticket m h step → Found c ticket m.subject h
step_found c h ticket m (read operation) order replied = read_found c h ticket m operation order replied
step_found c h ticket m (handled call) order none = absurd none
step_found c h ticket m (opened info) order none = absurd none
step_found c h ticket m (fed bytes) order none = absurd none
step_found c h ticket m ticked order none = absurd none
step_found c h ticket m (taken n) order none = absurd none
step_found c h ticket m (accepted other) order none = absurd none
step_found c h ticket m (took sid) order none = absurd none
step_found c h ticket m (gone sid) order none = absurd none
step_found c h ticket m (passed other) order none = absurd none
step_found c h ticket m (link_end word) order none = absurd none
step_found c h ticket m closed order none = absurd none

replied_found : (c : Config) (h : History) (ticket : ℕ) (m : Message) → InOrder h → WasReplied c ticket m h
    → Found c ticket m.subject h
replied_found c [] ticket m order none = absurd none
replied_found c ((place, step) ∷ h) ticket m order (inl replied) =
    found_on c ticket m.subject place step h (step_found c h ticket m step order.1 replied)
replied_found c ((place, step) ∷ h) ticket m order (inr replied) =
    found_on c ticket m.subject place step h (replied_found c h ticket m order.1 replied)

pub replied_as_given : RepliedAsGiven
replied_as_given c h ticket call m order given replied = by (replied_found c h ticket m order replied)
  where
    by : Found c ticket m.subject h → reply_of c call ≡ Some m.subject
    by (other, also, is) = ap (reply_of c) (given_once c h ticket call other given also) ∙ is
