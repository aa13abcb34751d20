-- By what a ticket settles, and that it does so once.
use Rattle.std.specs.Str.{bytes_eq}
use Rattle.std.proofs.Common.{◌≡◌, ℕ, suc, Bool, true, false, cond, not, ◌&&◌, ◌||◌, ◌==◌, ◌⊎◌, inl, inr, List, [], ◌∷◌, ◌++◌, length, map, Option, Some, None, is_some, refl, sym, ◌∙◌, ap, subst}
use Rattle.std.proofs.lemmas.Bool.{false≢true, eqb-true, eq-eqb}
use Rattle.std.proofs.lemmas.Option.{none-some, same_Some}
use Rattle.nats_message.specs.declared.message.Message.{Message}
use Rattle.nats_lines.specs.Operations.{Operation, message}
use Rattle.nats_history.specs.declared.config.Config.{Config}
use Rattle.nats_history.specs.declared.call.Call.{Call}
use Rattle.nats_history.specs.declared.call.Call.TheVariants.{Flush, Request}
use Rattle.nats_history.specs.declared.call.CallReply.{CallReply}
use Rattle.nats_history.specs.declared.call.CallReply.TheVariants.{Flushed, Replied, FlushFailed, NoResponders, TimedOut, Dropped}
use Rattle.nats_history.specs.declared.waits.Waits.{Waits}
use Rattle.nats_history.specs.declared.waits.Waits.TheVariants as waits
use Rattle.nats_history.specs.Queue.{first}
use Rattle.nats_history.specs.History.{Step, read, taken, handled, passed, link_end, closed, History, inbox_of, waiting_bytes}
use Rattle.nats_history.specs.Tickets.{Tickets, flushed_by, flush_settled, request_at, displaced, is_unsettled, is_no_responders, request_reply, settled_by, handled_settles, queue_dropped, ticket_of, ticket_in, replied, replied_if, settles, tickets}
use Rattle.nats_tickets.specs.Kept.{reply_in, without}
use Rattle.nats_session.specs.Handler.{settled_tickets, without_all}
use Rattle.nats_session.specs.Laws.{stands_in, numbers_settled}
use Rattle.nats_session.proofs.Once.{reply_once}
use Rattle.nats_ask_laws.specs.Asked.{WaitsAt, WasAsked}
use Rattle.nats_ask_laws.specs.Settled.{IsFirstReply, WasReplied}
use Rattle.nats_ask_laws.specs.Laws.{FirstReply, OneByOne, SettledForGood, HeldReply}
use Rattle.nats_ask_laws.proofs.Asking.{Requests, same_bytes, since_asked}

abbrev Replies : Type 0
Replies = List (ℕ × CallReply)

-- ---- the reply of a ticket among two lists

reply_either : (t : ℕ) (xs ys : Replies) (r : CallReply) → reply_in t (xs ++ ys) ≡ Some r → (reply_in t xs ≡ Some r) ⊎ (reply_in t ys ≡ Some r)
reply_either t [] ys r e = inr e
reply_either t (x ∷ xs) ys r e = by (t == x.0) e (reply_either t xs ys r)
  where
    by : (b : Bool) → cond b (Some x.1) (reply_in t (xs ++ ys)) ≡ Some r → (reply_in t (xs ++ ys) ≡ Some r → (reply_in t xs ≡ Some r) ⊎ (reply_in t ys ≡ Some r))
        → (cond b (Some x.1) (reply_in t xs) ≡ Some r) ⊎ (reply_in t ys ≡ Some r)
    by true e later = inl e
    by false e later = later e

reply_front : (t : ℕ) (xs ys : Replies) (r : CallReply) → reply_in t xs ≡ Some r → reply_in t (xs ++ ys) ≡ Some r
reply_front t [] ys r e = absurd (none-some r e)
reply_front t (x ∷ xs) ys r e = by (t == x.0) e (reply_front t xs ys r)
  where
    by : (b : Bool) → cond b (Some x.1) (reply_in t xs) ≡ Some r → (reply_in t xs ≡ Some r → reply_in t (xs ++ ys) ≡ Some r)
        → cond b (Some x.1) (reply_in t (xs ++ ys)) ≡ Some r
    by true e later = e
    by false e later = later e

none_of : {A : Type 0} (o : Option A) → is_some o ≡ false → o ≡ None
none_of None e = refl
none_of (Some x) e = absurd (false≢true (sym e))

none_behind : (t : ℕ) (xs ys : Replies) → is_some (reply_in t (xs ++ ys)) ≡ false → reply_in t ys ≡ None
none_behind t [] ys e = none_of (reply_in t ys) e
none_behind t (x ∷ xs) ys e = by (t == x.0) e (none_behind t xs ys)
  where
    by : (b : Bool) → is_some (cond b (Some x.1) (reply_in t (xs ++ ys))) ≡ false → (is_some (reply_in t (xs ++ ys)) ≡ false → reply_in t ys ≡ None) → reply_in t ys ≡ None
    by true e later = absurd (false≢true (sym e))
    by false e later = later e

none_left_behind : (t : ℕ) (xs ys : Replies) (r : CallReply) → reply_in t xs ≡ Some r → is_some (reply_in t (without t (xs ++ ys))) ≡ false → reply_in t ys ≡ None
none_left_behind t [] ys r there e = absurd (none-some r there)
none_left_behind t (x ∷ xs) ys r there e = by (t == x.0) refl there e (none_left_behind t xs ys r)
  where
    by : (b : Bool) → (t == x.0) ≡ b → cond b (Some x.1) (reply_in t xs) ≡ Some r → is_some (reply_in t (cond b (xs ++ ys) (x ∷ without t (xs ++ ys)))) ≡ false
        → (reply_in t xs ≡ Some r → is_some (reply_in t (without t (xs ++ ys))) ≡ false → reply_in t ys ≡ None) → reply_in t ys ≡ None
    by true is there e later = none_behind t xs ys e
    by false is there e later =
        later there (sym (ap (λ b. is_some (cond b (Some x.1) (reply_in t (without t (xs ++ ys))))) is) ∙ e)

-- ---- replies that are no message

abbrev IsPlain : CallReply → Type 0
IsPlain reply = (m : Message) → reply ≡ Replied m → ⊥

abbrev ArePlain : Replies → Type 0
ArePlain xs = (t : ℕ) (m : Message) → reply_in t xs ≡ Some (Replied m) → ⊥

plain_flushed : IsPlain Flushed
plain_flushed m e = cc

plain_failed : IsPlain FlushFailed
plain_failed m e = cc

plain_dropped : IsPlain Dropped
plain_dropped m e = cc

plain_timed_out : IsPlain TimedOut
plain_timed_out m e = cc

plain_none : ArePlain []
plain_none t m e = none-some (Replied m) e

plain_more : (x : ℕ × CallReply) (xs : Replies) → IsPlain x.1 → ArePlain xs → ArePlain (x ∷ xs)
plain_more x xs plain rest t m e = by (t == x.0) e
  where
    by : (b : Bool) → cond b (Some x.1) (reply_in t xs) ≡ Some (Replied m) → ⊥
    by true e = plain m (same_Some x.1 (Replied m) e)
    by false e = rest t m e

plain_replied : (reply : CallReply) (ts : List ℕ) → IsPlain reply → ArePlain (replied reply ts)
plain_replied reply [] plain = plain_none
plain_replied reply (t ∷ ts) plain = plain_more (t, reply) (replied reply ts) plain (plain_replied reply ts plain)

plain_if : (reply : CallReply) (o : Option ℕ) → IsPlain reply → ArePlain (replied_if reply o)
plain_if reply None plain = plain_none
plain_if reply (Some ticket) plain = plain_more (ticket, reply) [] plain plain_none

plain_both : (xs ys : Replies) → ArePlain xs → ArePlain ys → ArePlain (xs ++ ys)
plain_both xs ys front back t m e = by (reply_either t xs ys (Replied m) e)
  where
    by : (reply_in t xs ≡ Some (Replied m)) ⊎ (reply_in t ys ≡ Some (Replied m)) → ⊥
    by (inl there) = front t m there
    by (inr there) = back t m there

plain_queue : (n : ℕ) (qs : List Waits) → ArePlain (queue_dropped n qs)
plain_queue n [] = plain_none
plain_queue n (waits.Flush ∷ qs) = plain_more (n, FlushFailed) (queue_dropped (suc n) qs) plain_failed (plain_queue (suc n) qs)
plain_queue n (waits.Request ∷ qs) = plain_more (n, Dropped) (queue_dropped (suc n) qs) plain_dropped (plain_queue (suc n) qs)
plain_queue n (waits.Late ∷ qs) = plain_queue (suc n) qs

plain_handled : (c : Config) (waiting : ℕ) (call : Call) (t : Tickets) → ArePlain (handled_settles c waiting call t)
plain_handled c waiting Flush t = plain_replied Flushed (flush_settled waiting (first t.queued) t) plain_flushed
plain_handled c waiting (Request to payload headers token) t =
    plain_if Dropped (displaced (inbox_of c token) (first t.queued) t) plain_dropped
plain_handled c waiting call t = plain_none

plain_passed : (b : Bool) (ticket : ℕ) → ArePlain (cond b ((ticket, TimedOut) ∷ []) [])
plain_passed true ticket = plain_more (ticket, TimedOut) [] plain_timed_out plain_none
plain_passed false ticket = plain_none

plain_closed : (t : Tickets) → ArePlain (replied FlushFailed (map ticket_of t.flushing) ++ replied Dropped (map ticket_in t.asking) ++ queue_dropped (suc t.handled) t.queued)
plain_closed t =
    plain_both (replied FlushFailed (map ticket_of t.flushing) ++ replied Dropped (map ticket_in t.asking)) (queue_dropped (suc t.handled) t.queued)
    (plain_both (replied FlushFailed (map ticket_of t.flushing)) (replied Dropped (map ticket_in t.asking)) (plain_replied FlushFailed (map ticket_of t.flushing) plain_failed) (plain_replied Dropped (map ticket_in t.asking) plain_dropped))
    (plain_queue (suc t.handled) t.queued)

-- ---- the message by which a ticket settles

found_at : (s : List ℕ) (rs : Requests) (k : ℕ) → request_at s rs ≡ Some k → WaitsAt k s rs
found_at s [] k e = absurd (none-some k e)
found_at s (r ∷ rs) k e = by (bytes_eq s r.1) refl e (found_at s rs k)
  where
    by : (b : Bool) → bytes_eq s r.1 ≡ b → cond b (Some r.0) (request_at s rs) ≡ Some k → (request_at s rs ≡ Some k → WaitsAt k s rs) → WaitsAt k s (r ∷ rs)
    by true same e later = inl (sym (same_Some r.0 k e), same_bytes s r.1 same)
    by false other e later = inr (later e)

reply_message : (came m : Message) → request_reply came ≡ Replied m → came ≡ m
reply_message came m e = by (is_no_responders came.status) e
  where
    by : (b : Bool) → cond b NoResponders (Replied came) ≡ Replied m → came ≡ m
    by true e = cc
    by false e = cc

-- a ticket among those that one message settles
the_ticket : (t : ℕ) (reply r : CallReply) (o : Option ℕ) → reply_in t (replied_if reply o) ≡ Some r → (o ≡ Some t) × (reply ≡ r)
the_ticket t reply r None e = absurd (none-some r e)
the_ticket t reply r (Some k) e = by (t == k) refl e
  where
    by : (b : Bool) → (t == k) ≡ b → cond b (Some reply) None ≡ Some r → (Some k ≡ Some t) × (reply ≡ r)
    by true same e = (ap Some (sym (eqb-true t k same)), same_Some reply r e)
    by false other e = absurd (none-some r e)

first_read : (c : Config) (h : History) (t : ℕ) (m : Message) (operation : Operation) → reply_in t (settled_by operation (tickets c h).asking) ≡ Some (Replied m)
    → IsFirstReply c t m h (read operation)
first_read c h t m (message sid came) e = by (sid == 0) refl e
  where
    by : (b : Bool) → (sid == 0) ≡ b → reply_in t (cond b (replied_if (request_reply came) (request_at came.subject (tickets c h).asking)) []) ≡ Some (Replied m)
        → (sid ≡ 0) × (came ≡ m) × WasAsked c t m.subject h
    by true is e =
        let found = the_ticket t (request_reply came) (Replied m) (request_at came.subject (tickets c h).asking) e in
        let same = reply_message came m found.1 in
        (eqb-true sid 0 is, same, subst (λ (x : Message). WasAsked c t x.subject h) same (since_asked c h t came.subject (found_at came.subject (tickets c h).asking t found.0)))
    by false is e = absurd (none-some (Replied m) e)
first_read c h t m operation e = absurd (none-some (Replied m) e)

first_at : (c : Config) (h : History) (t : ℕ) (m : Message) (step : Step) → reply_in t (settles c (length (waiting_bytes c h)) step (tickets c h)) ≡ Some (Replied m)
    → IsFirstReply c t m h step
first_at c h t m (read operation) e = first_read c h t m operation e
first_at c h t m (handled call) e = plain_handled c (length (waiting_bytes c h)) call (tickets c h) t m e
first_at c h t m (taken n) e = plain_replied Flushed (flushed_by n (tickets c h).flushing) plain_flushed t m e
first_at c h t m (passed ticket) e = plain_passed (is_unsettled ticket (tickets c h)) ticket t m e
first_at c h t m (link_end end) e = plain_replied FlushFailed (map ticket_of (tickets c h).flushing) plain_failed t m e
first_at c h t m closed e = plain_closed (tickets c h) t m e
first_at c h t m step e = none-some (Replied m) e

pub first_reply : FirstReply
first_reply c [] t m e = none-some (Replied m) e
first_reply c ((place, step) ∷ h) t m e =
    by (reply_either t (settled_tickets c h) (settles c (length (waiting_bytes c h)) step (tickets c h)) (Replied m) e) (first_reply c h t m)
  where
    by : (reply_in t (settled_tickets c h) ≡ Some (Replied m)) ⊎ (reply_in t (settles c (length (waiting_bytes c h)) step (tickets c h)) ≡ Some (Replied m))
        → (reply_in t (settled_tickets c h) ≡ Some (Replied m) → WasReplied c t m h) → WasReplied c t m ((place, step) ∷ h)
    by (inl before) later = inr (later before)
    by (inr now) later = inl (first_at c h t m step now)

-- ---- one ticket for one operation

one_read : (t n : ℕ) (reply r s : CallReply) (o : Option ℕ) → reply_in t (replied_if reply o) ≡ Some r → reply_in n (replied_if reply o) ≡ Some s → t ≡ n
one_read t n reply r s o e f = same_Some t n (sym (the_ticket t reply r o e).0 ∙ (the_ticket n reply s o f).0)

pub one_by_one : OneByOne
one_by_one (message sid m) asking ticket other reply late e f = by (sid == 0) e f
  where
    by : (b : Bool) → reply_in ticket (cond b (replied_if (request_reply m) (request_at m.subject asking)) []) ≡ Some reply
        → reply_in other (cond b (replied_if (request_reply m) (request_at m.subject asking)) []) ≡ Some late → ticket ≡ other
    by true e f = one_read ticket other (request_reply m) reply late (request_at m.subject asking) e f
    by false e f = absurd (none-some reply e)
one_by_one operation asking ticket other reply late e f = absurd (none-some reply e)

-- ---- once and for good

kept_for_good : (c : Config) (h later : History) (t : ℕ) (r : CallReply) → reply_in t (settled_tickets c h) ≡ Some r → reply_in t (settled_tickets c (later ++ h)) ≡ Some r
kept_for_good c h [] t r e = e
kept_for_good c h ((place, step) ∷ later) t r e =
    reply_front t (settled_tickets c (later ++ h)) (settles c (length (waiting_bytes c (later ++ h))) step (tickets c (later ++ h))) r (kept_for_good c h later t r e)

and_false : (a b : Bool) → b ≡ false → (a && b) ≡ false
and_false true b e = e
and_false false b e = refl

is_some_of : {A : Type 0} (o : Option A) (x : A) → o ≡ Some x → is_some o ≡ true
is_some_of o x e = ap is_some e

itself : (t : ℕ) → not (stands_in t (t ∷ [])) ≡ false
itself t = ap (λ b. not (b || false)) (eq-eqb t t refl)

none_later : (c : Config) (h : History) (t : ℕ) (r : CallReply) (step : Step) → reply_in t (settled_tickets c h) ≡ Some r
    → reply_in t (settles c (length (waiting_bytes c h)) step (tickets c h)) ≡ None
none_later c h t r step e =
    let now = settles c (length (waiting_bytes c h)) step (tickets c h) in
    let all = settled_tickets c h ++ now in
    let there = is_some_of (reply_in t all) r (reply_front t (settled_tickets c h) now r e) in
    none_left_behind t (settled_tickets c h) now r e
    (reply_once c ((0, step) ∷ h) (t ∷ []) t (there, tt)
    ∙ and_false (stands_in t (numbers_settled all)) (not (stands_in t (t ∷ []))) (itself t))

pub settled_for_good : SettledForGood
settled_for_good c h later ticket reply e =
    let kept = kept_for_good c h later ticket reply e in (kept, λ step. none_later c (later ++ h) ticket reply step kept)

-- ---- replies that wait to be handed out

other_without : (t k : ℕ) (xs : Replies) → (t == k) ≡ false → reply_in t (without k xs) ≡ reply_in t xs
other_without t k [] other = refl
other_without t k (x ∷ xs) other = by (k == x.0) refl (other_without t k xs other)
  where
    by : (b : Bool) → (k == x.0) ≡ b → reply_in t (without k xs) ≡ reply_in t xs → reply_in t (cond b xs (x ∷ without k xs)) ≡ cond (t == x.0) (Some x.1) (reply_in t xs)
    by true same later =
        sym (ap (λ b. cond b (Some x.1) (reply_in t xs)) (ap (λ n. t == n) (sym (eqb-true k x.0 same)) ∙ other))
    by false apart later = ap (λ o. cond (t == x.0) (Some x.1) o) later

neither : (a b : Bool) → (a || b) ≡ false → (a ≡ false) × (b ≡ false)
neither true b e = absurd (false≢true (sym e))
neither false b e = (refl, e)

not_out : (t : ℕ) (out : List ℕ) (xs : Replies) → stands_in t out ≡ false → reply_in t (without_all out xs) ≡ reply_in t xs
not_out t [] xs none = refl
not_out t (k ∷ out) xs none =
    let both = neither (t == k) (stands_in t out) none in
    other_without t k (without_all out xs) both.0 ∙ not_out t out xs both.1

was_left : (a b : Bool) → true ≡ (a && not b) → b ≡ false
was_left true true e = absurd (false≢true (sym e))
was_left true false e = refl
was_left false b e = absurd (false≢true (sym e))

pub held_reply : HeldReply
held_reply c out h seen ticket reply stands =
    let all = settled_tickets c h in
    let waits = ap (reply_in ticket) stands.ready in
    (λ e. sym (not_out ticket out.tickets all (was_left (stands_in ticket (numbers_settled all)) (stands_in ticket out.tickets) (sym (is_some_of (reply_in ticket (without_all out.tickets all)) reply (sym waits ∙ e)) ∙ reply_once c h out.tickets ticket stands.replied))) ∙ (sym waits ∙ e), λ none e. waits ∙ (not_out ticket out.tickets all none ∙ e))
