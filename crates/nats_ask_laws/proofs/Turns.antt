-- What turns make happen, in order.
use Rattle.std.proofs.Common.{◌≡◌, ℕ, zero, suc, Bool, true, false, cond, List, [], ◌∷◌, ◌++◌, length, Option, Some, None, refl, sym, ◌∙◌, ap, subst}
use Rattle.std.specs.Prelude.{nat_lt, nat_le, min}
use Rattle.std.proofs.lemmas.Option.{none-some, same_Some}
use Rattle.nats_lines.specs.Operations.{Operation, Front, unfinished, got, fault, front}
use Rattle.nats_history.specs.declared.config.Config.{Config}
use Rattle.nats_history.specs.declared.call.Call.{Call}
use Rattle.nats_history.specs.declared.call.CallReply.{CallReply}
use Rattle.nats_history.specs.declared.call.TakeReply.{TakeReply}
use Rattle.nats_history.specs.declared.call.TakeReply.TheVariants as takes
use Rattle.nats_history.specs.declared.turn.Turn.{Turn}
use Rattle.nats_history.specs.declared.turn.Turn.TheVariants.{Up, Piece, Write, Tick, Lost, GiveUp, Hangup, Do, Take, Deadline}
use Rattle.nats_history.specs.declared.transcript.LinkWord.{LinkWord}
use Rattle.nats_history.specs.declared.transcript.LinkWord.TheVariants as word
use Rattle.nats_history.specs.Queue.{first}
use Rattle.nats_history.specs.History.{Step, opened, fed, read, ticked, taken, accepted, handled, took, gone, passed, link_end, closed, History, waiting_calls, lets_go, ticks}
use Rattle.nats_history.specs.Tickets.{is_unsettled}
use Rattle.nats_history.specs.Parts.{Parts, parts_of}
use Rattle.nats_history.specs.Schedule.{closes, closing, ending, end_after, followers, chain, refusal, accepted_step, take_reply, took_step, gone_step, call_steps, tick_limit, own_steps, write_limit, due_call, due_by, due, put_steps, most_due, settled_within, settled, after_turn, steps_from}
use Rattle.nats_ask_laws.specs.Given.{HandlesFirst, InOrder, TurnsInOrder}

-- ---- steps that handle no call

abbrev pub HandlesNo : Step → Type 0
HandlesNo (handled call) = ⊥
HandlesNo step = Unit {0}

abbrev pub HandleNone : List Step → Type 0
HandleNone [] = Unit {0}
HandleNone (step ∷ more) = HandlesNo step × HandleNone more

no_first : (h : History) (step : Step) → HandlesNo step → HandlesFirst h step
no_first h (handled call) none = absurd none
no_first h (opened info) none = tt
no_first h (fed bytes) none = tt
no_first h (read operation) none = tt
no_first h ticked none = tt
no_first h (taken n) none = tt
no_first h (accepted other) none = tt
no_first h (took sid) none = tt
no_first h (gone sid) none = tt
no_first h (passed other) none = tt
no_first h closed none = tt
no_first h (link_end word) none = tt

put_none : (place : ℕ) (steps : List Step) (h : History) → HandleNone steps → InOrder h
    → InOrder (put_steps place steps h)
put_none place [] h none order = order
put_none place (step ∷ steps) h (one, none) order =
    put_none place steps ((place, step) ∷ h) none (no_first h step one, order)

closing_none : (b : Bool) → HandleNone (closing b)
closing_none true = (tt, tt)
closing_none false = tt

ending_none : (drained : Bool) (end : Option LinkWord) → HandleNone (ending drained end)
ending_none drained None = tt
ending_none drained (Some end) = (tt, closing_none (closes drained end))

followers_none : (p : Parts) (step : Step) → HandleNone (followers p step)
followers_none p (link_end end) = closing_none (closes p.drain.is_handled end)
followers_none p (opened info) = ending_none p.drain.is_handled (end_after p (opened info))
followers_none p (fed bytes) = ending_none p.drain.is_handled (end_after p (fed bytes))
followers_none p (read operation) = ending_none p.drain.is_handled (end_after p (read operation))
followers_none p ticked = ending_none p.drain.is_handled (end_after p ticked)
followers_none p (taken n) = ending_none p.drain.is_handled (end_after p (taken n))
followers_none p (accepted other) = ending_none p.drain.is_handled (end_after p (accepted other))
followers_none p (took sid) = ending_none p.drain.is_handled (end_after p (took sid))
followers_none p (gone sid) = ending_none p.drain.is_handled (end_after p (gone sid))
followers_none p (passed other) = ending_none p.drain.is_handled (end_after p (passed other))
followers_none p closed = ending_none p.drain.is_handled (end_after p closed)
followers_none p (handled call) = ending_none p.drain.is_handled (end_after p (handled call))

chain_none : (p : Parts) (step : Step) → HandlesNo step → HandleNone (chain p step)
chain_none p step one = (one, followers_none p step)

either : (b : Bool) (xs ys : List Step) → HandleNone xs → HandleNone ys → HandleNone (cond b xs ys)
either true xs ys one other = one
either false xs ys one other = other

call_none : (call : Call) (reply : Option CallReply) (name : Option ℕ)
    → HandleNone (accepted_step reply call ++ gone_step name)
call_none call None None = (tt, tt)
call_none call None (Some sid) = (tt, (tt, tt))
call_none call (Some reply) None = tt
call_none call (Some reply) (Some sid) = (tt, tt)

took_none : (sid : ℕ) (reply : TakeReply) → HandleNone (took_step sid reply)
took_none sid (takes.Message m) = (tt, tt)
took_none sid takes.Empty = tt
took_none sid takes.Ended = tt

own_none : (p : Parts) (turn : Turn) → HandleNone (own_steps p turn)
own_none p (Up info) = chain_none p (opened info) tt
own_none p (Piece bytes) = chain_none p (fed bytes) tt
own_none p (Write n) = chain_none p (taken (min n (length p.link.wire.waiting))) tt
own_none p Tick =
    either (nat_le tick_limit (ticks p.link.pings)) (chain p (link_end word.Ticks)) (chain p ticked)
    (chain_none p (link_end word.Ticks) tt) (chain_none p ticked tt)
own_none p Lost = chain_none p (link_end word.Lost) tt
own_none p GiveUp = chain_none p closed tt
own_none p Hangup =
    either p.link.is_up (chain p (link_end word.Hangup)) (chain p closed) (chain_none p (link_end word.Hangup) tt)
    (chain_none p closed tt)
own_none p (Do call) = call_none call (refusal p call) (lets_go call)
own_none p (Take sid) = took_none sid (take_reply p sid)
own_none p (Deadline ticket) =
    either (is_unsettled ticket p.tickets) (chain p (passed ticket)) [] (chain_none p (passed ticket) tt) tt

-- ---- due steps

-- a step that is due handles the oldest of these calls, if it handles one
abbrev pub Oldest : List Call → Step → Type 0
Oldest calls (handled call) = first calls ≡ Some call
Oldest calls step = Unit {0}

oldest_call : (b : Bool) (calls : List Call) (step : Step) → due_call b calls ≡ Some step → Oldest calls step
oldest_call true (call ∷ more) step is =
    subst (λ (s : Step). Oldest (call ∷ more) s) (same_Some (handled call) step is) refl
oldest_call true [] step is = absurd (none-some step is)
oldest_call false calls step is = absurd (none-some step is)

oldest_by : (f : Front) (p : Parts) (step : Step) → due_by f p ≡ Some step → Oldest p.calls step
oldest_by (got operation n) p step is =
    subst (λ (s : Step). Oldest p.calls s) (same_Some (read operation) step is) tt
oldest_by (fault n) p step is =
    subst (λ (s : Step). Oldest p.calls s) (same_Some (link_end word.Fault) step is) tt
oldest_by unfinished p step is = oldest_call (nat_lt (length p.link.wire.waiting) write_limit) p.calls step is

oldest_due : (p : Parts) (step : Step) → due p ≡ Some step → Oldest p.calls step
oldest_due p step is = by p.link.is_up is
  where
    by : (b : Bool) → cond b (due_by (front p.link.wire.unread) p) None ≡ Some step → Oldest p.calls step
    by true is = oldest_by (front p.link.wire.unread) p step is
    by false is = absurd (none-some step is)

first_of : (h : History) (step : Step) → Oldest (waiting_calls h) step → HandlesFirst h step
first_of h (handled call) oldest = oldest
first_of h (opened info) oldest = tt
first_of h (fed bytes) oldest = tt
first_of h (read operation) oldest = tt
first_of h ticked oldest = tt
first_of h (taken n) oldest = tt
first_of h (accepted other) oldest = tt
first_of h (took sid) oldest = tt
first_of h (gone sid) oldest = tt
first_of h (passed other) oldest = tt
first_of h closed oldest = tt
first_of h (link_end word) oldest = tt

in_settled : (c : Config) (place most : ℕ) (step : Option Step) (h : History) → InOrder h
    → ((one : Step) → step ≡ Some one → HandlesFirst h one) → InOrder (settled_within c place most step h)
in_settled c place most None h order oldest = order
in_settled c place zero (Some step) h order oldest = order
in_settled c place (suc most) (Some step) h order oldest =
    let p = parts_of c h in
    let more = put_steps place (chain p step) h in
    in_settled c place most (due (parts_of c more)) more
    (put_none place (followers p step) ((place, step) ∷ h) (followers_none p step) (oldest step refl, order))
    (λ one is. first_of more one (oldest_due (parts_of c more) one is))

in_turn : (c : Config) (place : ℕ) (turn : Turn) (h : History) → InOrder h → InOrder (after_turn c place turn h)
in_turn c place turn h order =
    let p = parts_of c h in
    let own = put_steps place (own_steps p turn) h in
    in_settled c place (most_due (parts_of c own)) (due (parts_of c own)) own
    (put_none place (own_steps p turn) h (own_none p turn) order)
    (λ one is. first_of own one (oldest_due (parts_of c own) one is))

in_turns : (c : Config) (place : ℕ) (turns : List Turn) (h : History) → InOrder h → InOrder (steps_from c place turns h)
in_turns c place [] h order = order
in_turns c place (turn ∷ turns) h order =
    in_turns c (suc place) turns (after_turn c place turn h) (in_turn c place turn h order)

pub turns_in_order : TurnsInOrder
turns_in_order c turns = in_turns c 1 turns [] tt
