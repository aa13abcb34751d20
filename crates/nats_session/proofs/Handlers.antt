-- Laws on a handler as it is seen.
use Rattle.std.proofs.Common.{◌≡◌, ℕ, zero, suc, ◌≤◌, ◌-◌, List, [], ◌∷◌, ◌++◌, length, drop, map, Option, Some, None, Result, Ok, Err, OnOk, OnErr, IfOk, Bool, true, false, not, cond, is_some, ◌&&◌, ◌||◌, ◌==◌, refl, sym, ◌∙◌, ap, subst, arith}
use Rattle.std.proofs.lemmas.List.{map-append, length-append, length-map, drop-append-le, length-drop}
use Rattle.std.proofs.lemmas.Bool.{false≢true}
use Rattle.std.proofs.lemmas.Option.{none-some, same_Some}
use Rattle.std.proofs.lemmas.Result.{on_ok_weaker}
use Rattle.nats_names.specs.declared.event.Event.{Event}
use Rattle.nats_message.specs.declared.message.Message.{Message}
use Rattle.nats_history.specs.declared.config.Config.{Config}
use Rattle.nats_history.specs.declared.call.Call.{Call}
use Rattle.nats_history.specs.declared.call.Call.TheVariants.{Unsubscribe, DrainAll, Flush, Request}
use Rattle.nats_history.specs.declared.call.Interest.{Interest}
use Rattle.nats_history.specs.declared.waits.Waits.{Waits}
use Rattle.nats_history.specs.declared.waits.Waits.TheVariants as waits
use Rattle.nats_history.specs.declared.ping.Ping.{Ping}
use Rattle.nats_history.specs.declared.call.CallReply.{CallReply}
use Rattle.nats_history.specs.declared.call.CallReply.TheVariants.{Accepted, Numbered, TimedOut}
use Rattle.nats_history.specs.declared.call.TakeReply.{TakeReply}
use Rattle.nats_history.specs.declared.call.TakeReply.TheVariants as takes
use Rattle.nats_history.specs.declared.turn.Turn.TheVariants.{Do, Take, Deadline}
use Rattle.nats_history.specs.declared.turn.Due.{Due}
use Rattle.nats_history.specs.Queue.{first}
use Rattle.nats_tables.specs.Numbers.{only, at_number, item_of, named, change}
use Rattle.nats_history.specs.History.{Step, accepted, took, passed, History, asks, shuts, drains_all, waits_as, takes_ticket, requests, lets_go, waiting_bytes, interest_by, Sub, is_ended, forgotten, kept, second, events_by, at_place, events}
use Rattle.nats_history.specs.Tickets.{queued_with, waits_for_reply, requests_but, waits_late, is_waiting_request, is_unsettled, settles, tickets}
use Rattle.nats_history.specs.Parts.{Subs, Parts}
use Rattle.nats_history.specs.Schedule.{refusal, reply_by, accepted_reply, call_reply, accepted_step, gone_step, call_steps, is_closed_sub, oldest, sub_take, take_reply_of, take_reply, is_there, took_step, own_steps, due, put_steps, chain, due_chain}
use Rattle.nats_history.specs.After.{new_sub, sub_after, subs_after, after, after_all, events_of, settled_of}
use Rattle.nats_lines.specs.Operations.{unfinished, front}
use Rattle.nats_history.proofs.Dues.{nothing_there}
use Rattle.nats_history.proofs.Refines.{parts_after}
use Rattle.nats_tables.proofs.Numbers.{at_number_same, agree_at}
use Rattle.nats_subs.specs.declared.subs.subscription.Alteration.TheVariants as alterations
use Rattle.nats_subs.specs.Delivery.{take_from, given_one, rows_named, with_rows}
use Rattle.nats_tickets.specs.Kept.{Kept, reply_in, without}
use Rattle.nats_tickets.specs.Kept as tickets_kept
use Rattle.nats_tickets.proofs.Marks.{pushed}
use Rattle.nats_session.specs.Machine.{quiet}
use Rattle.nats_session.specs.Handler.{Seen, kept_of, HandedOut, settled_tickets, without_all, StoodThere, StandsFor, push_all, seen_after, seen_all, LeadTo, can_play, Advances, Answers, Submits, handed, HandsOut, handed_reply, HandsReply}

-- ---- nothing stands at the front where no byte is unread

pub none_unread : (bytes : List ℕ) → length bytes ≡ 0 → front bytes ≡ unfinished
none_unread [] none = nothing_there
none_unread (b ∷ bytes) none = cc

-- ---- a take where nothing waits changes nothing

abbrev is_message : TakeReply → Bool
is_message (takes.Message m) = true
is_message takes.Empty = false
is_message takes.Ended = false

not_true : (b : Bool) → not b ≡ true → b ≡ false
not_true true e = absurd (false≢true e)
not_true false e = refl

empty_sub : (sub : Sub) → not sub.is_gone ≡ true → is_message (sub_take sub) ≡ false → kept (take_from sub) ≡ sub
empty_sub sub there none =
    ap (λ ms. kept (record sub { waiting = ms })) (by_waiting sub.waiting none) ∙ ap (λ g. cond (g && is_ended sub.stage) forgotten sub) (not_true sub.is_gone there)
  where
    by_waiting : (ms : List Message) → is_message (oldest (is_closed_sub sub) ms) ≡ false → drop 1 ms ≡ ms
    by_waiting [] none = refl
    by_waiting (m ∷ ms) none = absurd (false≢true (sym none))

took_nothing : (subs : List Sub) (sid : ℕ) → is_there (item_of sid subs) ≡ true → is_message (take_reply_of (item_of sid subs)) ≡ false
    → at_number sid (λ sub. kept (take_from sub)) subs ≡ subs
took_nothing subs sid there none =
    agree_at sid (λ sub. kept (take_from sub)) (λ sub. sub) subs (λ sub is. empty_sub sub (sym (ap is_there is) ∙ there) (sym (ap (λ row. is_message (take_reply_of row)) is) ∙ none)) ∙ at_number_same sid subs

abbrev with_taken : Seen → List Sub → Seen
with_taken seen rows = record seen { parts = record seen.parts { subs = record seen.parts.subs { rows = rows } } }

-- a take is a step, or where nothing waits none
pub own_take : (seen : Seen) (sid : ℕ) (r : TakeReply) → is_there (item_of sid seen.parts.subs.rows) ≡ true → take_reply seen.parts sid ≡ r
    → seen_after seen (took sid) ≡ seen_all seen (took_step sid r)
own_take seen sid (takes.Message m) there e = refl
own_take seen sid takes.Empty there e = ap (with_taken seen) (took_nothing seen.parts.subs.rows sid there (ap is_message e))
own_take seen sid takes.Ended there e = ap (with_taken seen) (took_nothing seen.parts.subs.rows sid there (ap is_message e))

-- ---- standing for a history

second-at_place : {A : Type 0} (place : ℕ) (xs : List A) → map second (at_place place xs) ≡ xs
second-at_place place [] = refl
second-at_place place (x ∷ xs) = ap (λ ys. x ∷ ys) (second-at_place place xs)

-- the events that wait, with those of one more step
events_more : (out : ℕ) (es : List (ℕ × Event)) (place : ℕ) (more : List Event) → out ≤ length es → drop out (map second es) ++ more ≡ drop out (map second (es ++ at_place place more))
events_more out es place more fits =
    sym (ap (drop out) (map-append second es (at_place place more)) ∙ (drop-append-le out (map second es) (map second (at_place place more)) (rw length-map fits) ∙ ap (λ xs. drop out (map second es) ++ xs) (second-at_place place more)))

-- ---- settled tickets

abbrev Settled : Type 0
Settled = List (ℕ × CallReply)

-- what stands there is found, and taken away, whatever is behind it
reply_more : (ticket : ℕ) (xs more : Settled) → is_some (reply_in ticket xs) ≡ true → is_some (reply_in ticket (xs ++ more)) ≡ true
reply_more ticket [] more e = absurd (false≢true e)
reply_more ticket (x ∷ xs) more e = by (ticket == x.0) e (reply_more ticket xs more)
  where
    by : (b : Bool) → is_some (cond b (Some x.1) (reply_in ticket xs)) ≡ true → (is_some (reply_in ticket xs) ≡ true → is_some (reply_in ticket (xs ++ more)) ≡ true)
        → is_some (cond b (Some x.1) (reply_in ticket (xs ++ more))) ≡ true
    by true e later = refl
    by false e later = later e

without_more : (ticket : ℕ) (xs more : Settled) → is_some (reply_in ticket xs) ≡ true → without ticket (xs ++ more) ≡ without ticket xs ++ more
without_more ticket [] more e = absurd (false≢true e)
without_more ticket (x ∷ xs) more e = by (ticket == x.0) e (without_more ticket xs more)
  where
    by : (b : Bool) → is_some (cond b (Some x.1) (reply_in ticket xs)) ≡ true → (is_some (reply_in ticket xs) ≡ true → without ticket (xs ++ more) ≡ without ticket xs ++ more)
        → cond b (xs ++ more) (x ∷ without ticket (xs ++ more)) ≡ cond b xs (x ∷ without ticket xs) ++ more
    by true e later = refl
    by false e later = ap (λ ys. x ∷ ys) (later e)

all_more : (out : List ℕ) (xs more : Settled) → StoodThere out xs → without_all out (xs ++ more) ≡ without_all out xs ++ more
all_more [] xs more there = refl
all_more (ticket ∷ out) xs more there = ap (without ticket) (all_more out xs more there.1) ∙ without_more ticket (without_all out xs) more there.0

stood_more : (out : List ℕ) (xs more : Settled) → StoodThere out xs → StoodThere out (xs ++ more)
stood_more [] xs more there = tt
stood_more (ticket ∷ out) xs more there = (
  ap (λ ys. is_some (reply_in ticket ys)) (all_more out xs more there.1) ∙ reply_more ticket (without_all out xs) more there.0,
  stood_more out xs more there.1,
)

-- what isn't there can't be taken away
without_none : (ticket : ℕ) (xs : Settled) → reply_in ticket xs ≡ None → without ticket xs ≡ xs
without_none ticket [] e = refl
without_none ticket (x ∷ xs) e = by (ticket == x.0) e (without_none ticket xs)
  where
    by : (b : Bool) → cond b (Some x.1) (reply_in ticket xs) ≡ None → (reply_in ticket xs ≡ None → without ticket xs ≡ xs) → cond b xs (x ∷ without ticket xs) ≡ x ∷ xs
    by true e later = absurd (none-some x.1 (sym e))
    by false e later = ap (λ ys. x ∷ ys) (later e)

-- what stands for a history stands, after a step, for the history with that step
stands_after : (c : Config) (out : HandedOut) (h : History) (place : ℕ) (step : Step) (seen : Seen) → StandsFor c out h seen → StandsFor c out ((place, step) ∷ h) (seen_after seen step)
stands_after c out h place step seen stands = record {
  parts = ap (λ q. after q step) stands.parts ∙ sym (parts_after c h place step);
  handed_out = omega (arith, stands.handed_out, length-append (events c h) (at_place place (events_by c h step)));
  waiting = pushed (events_of seen.parts step) seen.events ∙ (ap (λ q. seen.events ++ events_of q step) stands.parts ∙ (ap (λ es. es ++ events_by c h step) stands.waiting ∙ events_more out.events (events c h) place (events_by c h step) stands.handed_out));
  replied = stood_more out.tickets (settled_tickets c h) (settles c (length (waiting_bytes c h)) step (tickets c h)) stands.replied;
  ready = pushed (settled_of seen.parts step) seen.ready
      ∙ (ap (λ q. seen.ready ++ settled_of q step) stands.parts
      ∙ (ap (λ rs. rs ++ settles c (length (waiting_bytes c h)) step (tickets c h)) stands.ready
      ∙ sym (all_more out.tickets (settled_tickets c h) (settles c (length (waiting_bytes c h)) step (tickets c h)) stands.replied)));
}

lead_to : (old : Seen) (steps : List Step) → LeadTo old steps (seen_all old steps)
lead_to old [] c out h place stands = stands
lead_to old (step ∷ steps) c out h place stands =
    lead_to (seen_after old step) steps c out ((place, step) ∷ h) place (stands_after c out h place step old stands)

-- what is seen after the steps is led to by them
pub leads : (old : Seen) (steps : List Step) (new : Seen) → new ≡ seen_all old steps → LeadTo old steps new
leads old steps new e c out h place stands =
    subst (λ seen. StandsFor c out (put_steps place steps h) seen) (sym e) (lead_to old steps c out h place stands)

-- ---- what the public calls lead to

pub leads_one : {T E : Type 0} (r : Result T E) (old new : Seen) (step : Step) → OnOk r (new ≡ seen_after old step) → OnOk r (LeadTo old (step ∷ []) new)
leads_one r old new step e = on_ok_weaker r (λ is. leads old (step ∷ []) new is) e

pub leads_all : {T E : Type 0} (r : Result T E) (old new : Seen) (steps : List Step) → OnOk r (new ≡ seen_all old steps) → OnOk r (LeadTo old steps new)
leads_all r old new steps e = on_ok_weaker r (λ is. leads old steps new is) e

pub both_true : (a b : Bool) → (a && b) ≡ true → a ≡ true
both_true true b e = refl
both_true false b e = absurd (false≢true e)

-- a take that may be played is of a subscription that may be named
pub may_take : (p : Parts) (sid : ℕ) → can_play p (Take sid) ≡ true → is_there (item_of sid p.subs.rows) ≡ true
may_take p sid may = both_true (is_there (item_of sid p.subs.rows)) (not (is_some (due p))) may

pub leads_take : (old new : Seen) (sid : ℕ) → can_play old.parts (Take sid) ≡ true → new ≡ seen_after old (took sid)
    → LeadTo old (took_step sid (take_reply old.parts sid)) new
leads_take old new sid may e =
    leads old (took_step sid (take_reply old.parts sid)) new (e ∙ own_take old sid (take_reply old.parts sid) (may_take old.parts sid may) refl)

pub leads_call : (old new : Seen) (call : Call) (r : Result CallReply Call) → Submits old call r new → OnOk r (LeadTo old (own_steps old.parts (Do call)) new)
leads_call old new call (Err back) submits = tt
leads_call old new call (Ok reply) submits = leads old (own_steps old.parts (Do call)) new submits.1

pub leads_due : (old new : Seen) (next : Option Step) (name : Due) → Advances next old name new → LeadTo old (due_chain old.parts next) new
leads_due old new None name plays = leads old [] new plays.1
leads_due old new (Some step) name plays = leads old (chain old.parts step) new plays.1

-- ---- events are handed out

next_stands : (c : Config) (out : HandedOut) (h : History) (old new : Seen) (waiting : List Event) → old.events ≡ waiting → new ≡ record old { events = drop 1 old.events } → StandsFor c out h old → StandsFor c (handed (first waiting) out) h new
next_stands c out h old new [] is e stands = record {
  parts = ap (λ (s : Seen). s.parts) e ∙ stands.parts;
  handed_out = stands.handed_out;
  waiting = ap (λ (s : Seen). s.events) e ∙ (ap (drop 1) is ∙ (sym is ∙ stands.waiting));
  replied = stands.replied;
  ready = ap (λ (s : Seen). s.ready) e ∙ stands.ready;
}
next_stands c out h old new (event ∷ more) is e stands =
    let left : length (drop out.events (map second (events c h))) ≡ suc (length more) =
    ap length (sym stands.waiting ∙ is)
    in
    record {
      parts = ap (λ (s : Seen). s.parts) e ∙ stands.parts;
      handed_out = omega (arith, left, length-drop out.events (map second (events c h)), length-map (events c h) (λ (e : ℕ × Event). second e));
      waiting = ap (λ (s : Seen). s.events) e ∙ (ap (drop 1) stands.waiting ∙ drop_next out.events (map second (events c h)));
      replied = stands.replied;
      ready = ap (λ (s : Seen). s.ready) e ∙ stands.ready;
    }
  where
    drop_next : (n : ℕ) (xs : List Event) → drop 1 (drop n xs) ≡ drop (suc n) xs
    drop_next zero xs = refl
    drop_next (suc n) [] = refl
    drop_next (suc n) (x ∷ xs) = drop_next n xs

pub hands_out : (old new : Seen) (event : Option Event) → event ≡ first old.events → new ≡ record old { events = drop 1 old.events } → HandsOut old event new
hands_out old new event is e c out h stands = (
  is ∙ ap first stands.waiting,
  subst (λ x. StandsFor c (handed x out) h new) (sym is) (next_stands c out h old new old.events refl e stands),
)

-- ---- replies of tickets are handed out

reply_stands : (c : Config) (out : HandedOut) (h : History) (ticket : ℕ) (old new : Seen) (reply : Option CallReply) → reply_in ticket old.ready ≡ reply
    → new ≡ record old { ready = without ticket old.ready } → StandsFor c out h old → StandsFor c (handed_reply ticket reply out) h new
reply_stands c out h ticket old new None is e stands = record {
  parts = ap (λ (s : Seen). s.parts) e ∙ stands.parts;
  handed_out = stands.handed_out;
  waiting = ap (λ (s : Seen). s.events) e ∙ stands.waiting;
  replied = stands.replied;
  ready = ap (λ (s : Seen). s.ready) e ∙ (without_none ticket old.ready is ∙ stands.ready);
}
reply_stands c out h ticket old new (Some reply) is e stands = record {
  parts = ap (λ (s : Seen). s.parts) e ∙ stands.parts;
  handed_out = stands.handed_out;
  waiting = ap (λ (s : Seen). s.events) e ∙ stands.waiting;
  replied = (ap is_some (ap (reply_in ticket) (sym stands.ready) ∙ is), stands.replied);
  ready = ap (λ (s : Seen). s.ready) e ∙ ap (without ticket) stands.ready;
}

pub hands_reply : (ticket : ℕ) (old new : Seen) (reply : Option CallReply) → reply ≡ reply_in ticket old.ready → new ≡ record old { ready = without ticket old.ready }
    → HandsReply ticket old reply new
hands_reply ticket old new reply is e c out h stands = (
  is ∙ ap (reply_in ticket) stands.ready,
  reply_stands c out h ticket old new reply (sym is) e stands,
)

pub leads_advance : {E : Type 0} (old new : Seen) (next : Option Step) (r : Result Due E) → IfOk r (λ name. Advances next old name new) → OnOk r (LeadTo old (due_chain old.parts next) new)
leads_advance old new next (Ok name) plays = leads_due old new next name plays
leads_advance old new next (Err e) plays = tt

-- ---- what a method that goes half way leaves

pub on_err_of : {T E P : Type 0} (r : Result T E) → P → OnErr r P
on_err_of (Ok x) p = tt
on_err_of (Err e) p = p

pub on_ok_both : {T E P Q R : Type 0} (r : Result T E) → OnOk r P → OnOk r Q → (P → Q → R) → OnOk r R
on_ok_both (Ok x) p q f = f p q
on_ok_both (Err e) p q f = tt

pub on_ok_of : {T E P : Type 0} (r : Result T E) → P → OnOk r P
on_ok_of (Ok x) p = p
on_ok_of (Err e) p = tt

-- what an alteration of subscriptions or the events leave alone
pub unchanged : (seen : Seen) (subs : Subs) (events : List Event) → subs ≡ seen.parts.subs → events ≡ seen.events → record seen { parts = record seen.parts { subs = subs }; events = events } ≡ seen
unchanged seen subs events a b = rw (a, b) refl

-- ---- a call that is accepted

no_drain : (call : Call) (asked : Interest) → asks call ≡ Some asked → drains_all call ≡ false
no_drain DrainAll asked e = absurd (none-some asked e)
no_drain call asked e = refl

no_ticket : (call : Call) (asked : Interest) → asks call ≡ Some asked → waits_as call ≡ None
no_ticket Flush asked e = absurd (none-some asked e)
no_ticket (Request subject payload headers token) asked e = absurd (none-some asked e)
no_ticket call asked e = refl

no_shut : (call : Call) (asked : Interest) → asks call ≡ Some asked → shuts call ≡ None
no_shut (Unsubscribe s) asked e = absurd (none-some asked e)
no_shut call asked e = refl

abbrev subs_with : Config → Call → Subs → Bool → Subs
subs_with c call subs numbered = record subs {
  given = cond numbered (suc subs.given) subs.given;
  rows = change (cond numbered (only (suc subs.given)) (named (shuts call))) (sub_after c (accepted call)) (cond numbered (subs.rows ++ new_sub ∷ []) subs.rows);
}

-- a subscription after a call's acceptance, which may ask for it or shut it
abbrev accepted_sub : Option Interest → Option ℕ → Sub → Sub
accepted_sub asked shut sub = kept (record sub { interest = interest_by asked sub.interest; is_shut = is_some shut || sub.is_shut })

abbrev given_by : Subs → (Sub → Sub) → Subs
given_by subs f = record subs { given = suc subs.given; rows = at_number (suc subs.given) f (subs.rows ++ new_sub ∷ []) }

-- a subscribe is given the next number
pub subs_given : (c : Config) (pings : List Ping) (call : Call) (asked : Interest) (subs : Subs) → asks call ≡ Some asked → subs_after c pings (accepted call) subs ≡ given_one asked subs
subs_given c pings call asked subs is =
    ap (subs_with c call subs) (ap is_some is)
    ∙ (ap (λ o. given_by subs (accepted_sub o (shuts call))) is
    ∙ ap (λ o. given_by subs (accepted_sub (Some asked) o)) (no_shut call asked is))

shut_rows : (c : Config) (call : Call) (rows : List Sub) (name : Option ℕ) → asks call ≡ None → shuts call ≡ name
    → change (named name) (sub_after c (accepted call)) rows ≡ rows_named name alterations.Shut rows
shut_rows c call rows None none is = refl
shut_rows c call rows (Some s) none is =
    ap (λ o. at_number s (accepted_sub (asks call) o) rows) is ∙ ap (λ o. at_number s (accepted_sub o (Some s)) rows) none

-- any other call shuts the subscription that it names for that
pub subs_shut : (c : Config) (pings : List Ping) (call : Call) (subs : Subs) → asks call ≡ None → subs_after c pings (accepted call) subs ≡ with_rows (rows_named (shuts call) alterations.Shut subs.rows) subs
subs_shut c pings call subs none =
    ap (subs_with c call subs) (ap is_some none) ∙ ap (λ rows. with_rows rows subs) (shut_rows c call subs.rows (shuts call) none refl)

abbrev with_call : Seen → Bool → List Call → Subs → Seen
with_call seen drained calls subs = record seen {
  parts = record seen.parts { drain = record seen.parts.drain { is_accepted = drained }; calls = calls; subs = subs };
}

abbrev TakenIn : Seen → Call → CallReply → Seen → Type 0
TakenIn old call reply new = (reply ≡ call_reply old.parts call) × (new ≡ seen_all old (accepted_step (refusal old.parts call) call))

-- the same, where a call may be given a ticket
abbrev with_ticket : Seen → Bool → List Call → Subs → Bool → Option Waits → Seen
with_ticket seen drained calls subs request next = record seen {
  parts = record seen.parts {
    drain = record seen.parts.drain { is_accepted = drained };
    calls = calls;
    subs = subs;
    tickets = record seen.parts.tickets {
      given = cond (is_some next) (suc seen.parts.tickets.given) seen.parts.tickets.given;
      of_request = cond (is_some next) (seen.parts.tickets.of_request ++ request ∷ []) seen.parts.tickets.of_request;
      queued = queued_with next seen.parts.tickets.queued;
    };
  };
}

-- a call that is not refused and is given no ticket: one more waits, and the subscriptions are those after its
-- acceptance
taken : (old : Seen) (call : Call) (reply : CallReply) (drained : Bool) (calls : List Call) (subs : Subs) → refusal old.parts call ≡ None → waits_as call ≡ None → reply ≡ accepted_reply old.parts call
    → drained ≡ (drains_all call || old.parts.drain.is_accepted) → calls ≡ old.parts.calls ++ call ∷ [] → subs ≡ subs_after old.parts.config old.parts.link.pings (accepted call) old.parts.subs
    → TakenIn old call reply (with_call old drained calls subs)
taken old call reply drained calls subs free plain is d a b = (
  is ∙ sym (ap (λ r. reply_by r (accepted_reply old.parts call)) free),
  ap (λ x. with_call old x calls subs) d
      ∙ (ap (λ cs. with_call old (drains_all call || old.parts.drain.is_accepted) cs subs) a
      ∙ (ap (with_call old (drains_all call || old.parts.drain.is_accepted) (old.parts.calls ++ call ∷ [])) b
      ∙ (ap (with_ticket old (drains_all call || old.parts.drain.is_accepted) (old.parts.calls ++ call ∷ []) (subs_after old.parts.config old.parts.link.pings (accepted call) old.parts.subs) (requests call)) (sym plain)
      ∙ sym (ap (λ r. seen_all old (accepted_step r call)) free)))),
)

-- the same by what the fields of the handler became
taken_by : (seen old : Seen) (call : Call) (reply : CallReply) (drained : Bool) (calls : List Call) (subs : Subs) → seen ≡ old → refusal old.parts call ≡ None → waits_as call ≡ None
    → reply ≡ accepted_reply seen.parts call → drained ≡ (drains_all call || seen.parts.drain.is_accepted) → calls ≡ seen.parts.calls ++ call ∷ []
    → subs ≡ subs_after seen.parts.config seen.parts.link.pings (accepted call) seen.parts.subs → TakenIn old call reply (with_call seen drained calls subs)
taken_by seen old call reply drained calls subs same free plain is d a b =
    let free_there : refusal seen.parts call ≡ None = subst (λ (s : Seen). refusal s.parts call ≡ None) (sym same) free in
    subst (λ s. TakenIn s call reply (with_call seen drained calls subs)) same (taken seen call reply drained calls subs free_there plain is d a b)

pub numbered_by : (seen old : Seen) (call : Call) (asked : Interest) (calls : List Call) (subs : Subs) (number : ℕ) → seen ≡ old → refusal old.parts call ≡ None → asks call ≡ Some asked
    → calls ≡ seen.parts.calls ++ call ∷ [] → subs ≡ given_one asked seen.parts.subs → number ≡ subs.given
    → TakenIn old call (Numbered number) (record seen { parts = record seen.parts { calls = calls; subs = subs } })
numbered_by seen old call asked calls subs number same free is a b d =
    taken_by seen old call (Numbered number) seen.parts.drain.is_accepted calls subs same free (no_ticket call asked is)
    (ap Numbered (d ∙ ap (λ (x : Subs). x.given) b) ∙ sym (ap (λ o. cond (is_some o) (Numbered (suc seen.parts.subs.given)) (cond (takes_ticket call) (Numbered (suc seen.parts.tickets.given)) Accepted)) is))
    (sym (ap (λ x. x || seen.parts.drain.is_accepted) (no_drain call asked is)))
    a (b ∙ sym (subs_given seen.parts.config seen.parts.link.pings call asked seen.parts.subs is))

pub shut_by : (seen old : Seen) (call : Call) (drained : Bool) (calls : List Call) (subs : Subs) → seen ≡ old → refusal old.parts call ≡ None → waits_as call ≡ None → asks call ≡ None
    → drained ≡ (drains_all call || seen.parts.drain.is_accepted) → calls ≡ seen.parts.calls ++ call ∷ [] → subs ≡ with_rows (rows_named (shuts call) alterations.Shut seen.parts.subs.rows) seen.parts.subs
    → TakenIn old call Accepted (with_call seen drained calls subs)
shut_by seen old call drained calls subs same free plain is d a b =
    taken_by seen old call Accepted drained calls subs same free plain
    (sym (ap (λ o. cond (is_some o) (Numbered (suc seen.parts.subs.given)) (cond (takes_ticket call) (Numbered (suc seen.parts.tickets.given)) Accepted)) is
    ∙ ap (λ o. cond (is_some o) (Numbered (suc seen.parts.tickets.given)) Accepted) plain))
    d a (b ∙ sym (subs_shut seen.parts.config seen.parts.link.pings call seen.parts.subs is))

-- ---- a flush or a request that is accepted

abbrev pub with_kept : List Call → Kept → Seen → Seen
with_kept calls kept seen = record seen { parts = record seen.parts { calls = calls; tickets = kept.tickets }; ready = kept.ready }

-- the same of a call that waits as this, where its ticket comes next
abbrev Tickets : Call → Waits → Type 0
Tickets call next =
    (old : Seen) (calls : List Call) (kept : Kept) (number : ℕ) → refusal old.parts call ≡ None → calls ≡ old.parts.calls ++ call ∷ []
    → kept ≡ tickets_kept.given_one next (kept_of old) → number ≡ kept.tickets.given → TakenIn old call (Numbered number) (with_kept calls kept old)

flush_taken : Tickets Flush waits.Flush
flush_taken old calls kept number free a b d = (
  ap Numbered (d ∙ ap (λ (k : Kept). k.tickets.given) b) ∙ sym (ap (λ r. reply_by r (Numbered (suc old.parts.tickets.given))) free),
  ap (λ cs. with_kept cs kept old) a
      ∙ (ap (λ k. with_kept (old.parts.calls ++ Flush ∷ []) k old) b ∙ sym (ap (λ r. seen_all old (accepted_step r Flush)) free)),
)

tickets_by : (call : Call) (next : Waits) → waits_as call ≡ Some next → Tickets call next
tickets_by Flush next is = subst (Tickets Flush) (same_Some waits.Flush next is) flush_taken
tickets_by (Request subject payload headers token) next is =
    subst (Tickets (Request subject payload headers token)) (same_Some waits.Request next is) (λ old calls kept number free a b d. (
      ap Numbered (d ∙ ap (λ (k : Kept). k.tickets.given) b) ∙ sym (ap (λ r. reply_by r (Numbered (suc old.parts.tickets.given))) free),
      ap (λ cs. with_kept cs kept old) a
          ∙ (ap (λ k. with_kept (old.parts.calls ++ Request subject payload headers token ∷ []) k old) b ∙ sym (ap (λ r. seen_all old (accepted_step r (Request subject payload headers token))) free)),
    ))
tickets_by call next is = absurd (none-some next is)

-- one more call waits, and one more ticket was given
pub ticket_by : (seen old : Seen) (call : Call) (next : Waits) (calls : List Call) (kept : Kept) (number : ℕ) → seen ≡ old → refusal old.parts call ≡ None → waits_as call ≡ Some next
    → calls ≡ seen.parts.calls ++ call ∷ [] → kept ≡ tickets_kept.given_one next (kept_of seen) → number ≡ kept.tickets.given
    → TakenIn old call (Numbered number) (with_kept calls kept seen)
ticket_by seen old call next calls kept number same free is a b d =
    let free_there : refusal seen.parts call ≡ None = subst (λ (s : Seen). refusal s.parts call ≡ None) (sym same) free in
    subst (λ s. TakenIn s call (Numbered number) (with_kept calls kept seen)) same (tickets_by call next is seen calls kept number free_there a b d)

-- ---- a deadline

late_same : (k : ℕ) (queued : List Waits) → is_waiting_request (item_of k queued) ≡ false → at_number k waits_late queued ≡ queued
late_same k queued none = agree_at k waits_late (λ w. w) queued (λ w is. by w (sym (ap is_waiting_request is) ∙ none)) ∙ at_number_same k queued
  where
    by : (w : Waits) → is_waiting_request (Some w) ≡ false → waits_late w ≡ w
    by waits.Flush e = refl
    by waits.Late e = refl
    by waits.Request e = absurd (false≢true (sym e))

but_same : (ticket : ℕ) (asking : List (ℕ × List ℕ)) → waits_for_reply ticket asking ≡ false → requests_but ticket asking ≡ asking
but_same ticket [] none = refl
but_same ticket (request ∷ more) none = by (ticket == request.0) (but_same ticket more) none
  where
    by : (b : Bool) → (waits_for_reply ticket more ≡ false → requests_but ticket more ≡ more) → (b || waits_for_reply ticket more) ≡ false
        → cond b more (request ∷ requests_but ticket more) ≡ request ∷ more
    by true rest e = absurd (false≢true (sym e))
    by false rest e = ap (λ xs. request ∷ xs) (rest e)

or_false : (a b : Bool) → (a || b) ≡ false → (a ≡ false) × (b ≡ false)
or_false true b e = absurd (false≢true (sym e))
or_false false b e = (refl, e)

abbrev with_tickets : Kept → Seen → Seen
with_tickets kept seen = record seen { parts = record seen.parts { tickets = kept.tickets }; ready = kept.ready }

-- where the ticket is settled nothing changes
pub deadline_by : (seen old : Seen) (ticket : ℕ) (kept : Kept) → seen ≡ old → kept ≡ tickets_kept.timed_out ticket (kept_of seen)
    → with_tickets kept seen ≡ seen_all old (own_steps old.parts (Deadline ticket))
deadline_by seen old ticket kept same is =
    ap (λ k. with_tickets k seen) is ∙ (ap (λ s. with_tickets (tickets_kept.timed_out ticket (kept_of s)) s) same ∙ by (is_unsettled ticket old.parts.tickets) refl)
  where
    by : (b : Bool) → is_unsettled ticket old.parts.tickets ≡ b
        → with_tickets (tickets_kept.timed_out ticket (kept_of old)) old ≡ seen_all old (cond (is_unsettled ticket old.parts.tickets) (chain old.parts (passed ticket)) [])
    by true e = sym (ap (λ b. seen_all old (cond b (chain old.parts (passed ticket)) [])) e)
    by false e =
        let parts = or_false (waits_for_reply ticket old.parts.tickets.asking) (is_waiting_request (item_of (ticket - old.parts.tickets.handled) old.parts.tickets.queued)) e in
        ap (λ b. record old { parts = record old.parts { tickets = record old.parts.tickets { queued = at_number (ticket - old.parts.tickets.handled) waits_late old.parts.tickets.queued; asking = requests_but ticket old.parts.tickets.asking } }; ready = push_all (cond b ((ticket, TimedOut) ∷ []) []) old.ready }) e
        ∙ (ap (λ qs. record old { parts = record old.parts { tickets = record old.parts.tickets { queued = qs; asking = requests_but ticket old.parts.tickets.asking } } }) (late_same (ticket - old.parts.tickets.handled) old.parts.tickets.queued parts.1)
        ∙ (ap (λ xs. record old { parts = record old.parts { tickets = record old.parts.tickets { asking = xs } } }) (but_same ticket old.parts.tickets.asking parts.0)
        ∙ sym (ap (λ b. seen_all old (cond b (chain old.parts (passed ticket)) [])) e)))

-- ---- a subscription that is let go, whatever the reply

pub seen_append : (old : Seen) (xs ys : List Step) → seen_all old (xs ++ ys) ≡ seen_all (seen_all old xs) ys
seen_append old [] ys = refl
seen_append old (x ∷ xs) ys = seen_append (seen_after old x) xs ys

pub go_seen : (seen : Seen) (name : Option ℕ) → record seen { parts = record seen.parts { subs = with_rows (rows_named name alterations.LetGo seen.parts.subs.rows) seen.parts.subs } } ≡ seen_all seen (gone_step name)
go_seen seen None = refl
go_seen seen (Some s) = refl

pub submitted : (old mid seen : Seen) (call : Call) (reply : CallReply) (subs : Subs) → Answers (accepted_step (refusal old.parts call) call) old call (Ok reply) mid
    → seen ≡ mid → subs ≡ with_rows (rows_named (lets_go call) alterations.LetGo seen.parts.subs.rows) seen.parts.subs → Submits old call (Ok reply) (record seen { parts = record seen.parts { subs = subs } })
submitted old mid seen call reply subs taken_in same is = (
  taken_in.0,
  ap (λ x. record seen { parts = record seen.parts { subs = x } }) is
      ∙ (go_seen seen (lets_go call) ∙ (ap (λ s. seen_all s (gone_step (lets_go call))) (same ∙ taken_in.1) ∙ sym (seen_append old (accepted_step (refusal old.parts call) call) (gone_step (lets_go call))))),
)

-- ---- turns that leave no event

pub take_quiet : (old : Seen) (sid : ℕ) → old.events ≡ [] → old.ready ≡ [] → can_play old.parts (Take sid) ≡ true
    → seen_after old (took sid) ≡ quiet (after_all old.parts (took_step sid (take_reply old.parts sid)))
take_quiet old sid none settled may =
    let reply = take_reply old.parts sid in
    ap (λ es. record { parts = after old.parts (took sid); events = es; ready = old.ready }) none
    ∙ ap (λ rs. record { parts = after old.parts (took sid); events = []; ready = rs }) settled
    ∙ ap quiet (ap (λ (s : Seen). s.parts) (own_take old sid reply (may_take old.parts sid may) refl) ∙ by_reply reply)
  where
    by_reply : (r : TakeReply) → (seen_all old (took_step sid r)).parts ≡ after_all old.parts (took_step sid r)
    by_reply (takes.Message m) = refl
    by_reply takes.Empty = refl
    by_reply takes.Ended = refl

pub call_quiet : (old : Seen) (call : Call) → old.events ≡ [] → old.ready ≡ [] → seen_all old (call_steps old.parts call) ≡ quiet (after_all old.parts (call_steps old.parts call))
call_quiet old call none settled =
    by_steps (refusal old.parts call) (lets_go call)
    ∙ (ap (λ es. record { parts = after_all old.parts (call_steps old.parts call); events = es; ready = old.ready }) none
    ∙ ap (λ rs. record { parts = after_all old.parts (call_steps old.parts call); events = []; ready = rs }) settled)
  where
    by_steps : (refused : Option CallReply) (name : Option ℕ)
        → seen_all old (accepted_step refused call ++ gone_step name) ≡ record old { parts = after_all old.parts (accepted_step refused call ++ gone_step name) }
    by_steps None None = refl
    by_steps None (Some s) = refl
    by_steps (Some reply) None = refl
    by_steps (Some reply) (Some s) = refl
