-- The calls that wait, and what the tickets say of them.
use Rattle.std.proofs.Common.{◌≡◌, ℕ, zero, suc, ◌+◌, ◌-◌, ◌≤◌, ◌<◌, Bool, true, false, cond, ◌⊎◌, inl, inr, List, [], ◌∷◌, ◌++◌, length, drop, min, Option, Some, None, refl, sym, ◌∙◌, ap, subst, arith, append-nil, length-append}
use Rattle.nats_header.specs.Headers.{Headers}
use Rattle.std.proofs.lemmas.Bool.{false≢true}
use Rattle.std.proofs.lemmas.Option.{none-some, same_Some}
use Rattle.nats_tables.specs.Numbers.{at_number, at_index}
use Rattle.nats_history.specs.declared.config.Config.{Config}
use Rattle.nats_history.specs.declared.call.Call.{Call}
use Rattle.nats_history.specs.declared.call.Call.TheVariants.{Publish, Subscribe, Unsubscribe, Limit, Drain, DrainAll, Flush, Request, DropSub, Reconnect}
use Rattle.nats_history.specs.declared.waits.Waits.{Waits}
use Rattle.nats_history.specs.declared.waits.Waits.TheVariants as waits
use Rattle.nats_history.specs.Queue.{first}
use Rattle.nats_history.specs.History.{Step, opened, fed, read, ticked, taken, accepted, handled, took, gone, passed, link_end, closed, History, calls, handled_count, waiting_calls, waits_as, takes_ticket, inbox_of, waiting_bytes}
use Rattle.nats_history.specs.Tickets.{Tickets, tickets, tickets_after, ticket_handled, flush_handled, request_handled, queued_with, waits_late}
use Rattle.nats_ask_laws.specs.Given.{Gives, WasGiven, HandlesFirst, InOrder, HandlesFor, GivenOnce, HandledAsGiven}

-- ---- a ticket is given once

given_most : (c : Config) (h : History) (ticket : ℕ) (call : Call) → WasGiven c ticket call h → ticket ≤ (tickets c h).given
given_most c [] ticket call none = absurd none
given_most c ((place, step) ∷ h) ticket call (inl now) = here step now
  where
    grown : (b : Bool) (n : ℕ) → b ≡ true → ticket ≡ suc n → ticket ≤ cond b (suc n) n
    grown true n e is = omega (arith, is)
    grown false n e is = absurd (false≢true e)

    here : (step : Step) → Gives c ticket call h step → ticket ≤ (tickets_after c (length (waiting_bytes c h)) step (tickets c h)).given
    here (accepted other) (is, takes, number) = grown (takes_ticket other) (tickets c h).given (ap takes_ticket is ∙ takes) number
    here (opened info) none = absurd none
    here (fed bytes) none = absurd none
    here (read operation) none = absurd none
    here ticked none = absurd none
    here (taken n) none = absurd none
    here (handled other) none = absurd none
    here (took sid) none = absurd none
    here (gone sid) none = absurd none
    here (passed other) none = absurd none
    here (link_end word) none = absurd none
    here closed none = absurd none
given_most c ((place, step) ∷ h) ticket call (inr before) = later step (given_most c h ticket call before)
  where
    t : Tickets
    t = tickets c h

    grown : (b : Bool) (n : ℕ) → ticket ≤ n → ticket ≤ cond b (suc n) n
    grown true n le = omega (arith, le)
    grown false n le = le

    by_flush : (w : ℕ) (next : Option Waits) → ticket ≤ t.given → ticket ≤ (flush_handled w next t).given
    by_flush w None le = le
    by_flush w (Some waits.Flush) le = le
    by_flush w (Some waits.Request) le = le
    by_flush w (Some waits.Late) le = le

    by_request : (s : List ℕ) (next : Option Waits) → ticket ≤ t.given → ticket ≤ (request_handled s next t).given
    by_request s None le = le
    by_request s (Some waits.Flush) le = le
    by_request s (Some waits.Request) le = le
    by_request s (Some waits.Late) le = le

    by_call : (call : Call) → ticket ≤ t.given → ticket ≤ (ticket_handled c (length (waiting_bytes c h)) call t).given
    by_call (Publish m) le = le
    by_call (Subscribe subject group) le = le
    by_call (Unsubscribe sid) le = le
    by_call (Limit sid n) le = le
    by_call (Drain sid) le = le
    by_call DrainAll le = le
    by_call Flush le = by_flush (length (waiting_bytes c h)) (first t.queued) le
    by_call (Request subject payload headers token) le = by_request (inbox_of c token) (first t.queued) le
    by_call (DropSub sid) le = le
    by_call Reconnect le = le

    later : (step : Step) → ticket ≤ t.given → ticket ≤ (tickets_after c (length (waiting_bytes c h)) step t).given
    later (accepted other) le = grown (takes_ticket other) t.given le
    later (handled other) le = by_call other le
    later (opened info) le = le
    later (fed bytes) le = le
    later (read operation) le = le
    later ticked le = le
    later (taken n) le = le
    later (took sid) le = le
    later (gone sid) le = le
    later (passed other) le = le
    later (link_end word) le = le
    later closed le = le

-- a step that gives a ticket gives one behind all before
same_given : (c : Config) (h : History) (ticket : ℕ) (call : Call) (step : Step) → Gives c ticket call h step
    → ticket ≡ suc (tickets c h).given
same_given c h ticket call (accepted other) (is, takes, number) = number
same_given c h ticket call (opened info) none = absurd none
same_given c h ticket call (fed bytes) none = absurd none
same_given c h ticket call (read operation) none = absurd none
same_given c h ticket call ticked none = absurd none
same_given c h ticket call (taken n) none = absurd none
same_given c h ticket call (handled other) none = absurd none
same_given c h ticket call (took sid) none = absurd none
same_given c h ticket call (gone sid) none = absurd none
same_given c h ticket call (passed other) none = absurd none
same_given c h ticket call (link_end word) none = absurd none
same_given c h ticket call closed none = absurd none

same_step : (c : Config) (h : History) (ticket : ℕ) (call other : Call) (step : Step) → Gives c ticket call h step
    → Gives c ticket other h step → call ≡ other
same_step c h ticket call other (accepted one) (is, takes, number) (so, takes', number') = sym is ∙ so
same_step c h ticket call other (opened info) none so = absurd none
same_step c h ticket call other (fed bytes) none so = absurd none
same_step c h ticket call other (read operation) none so = absurd none
same_step c h ticket call other ticked none so = absurd none
same_step c h ticket call other (taken n) none so = absurd none
same_step c h ticket call other (handled one) none so = absurd none
same_step c h ticket call other (took sid) none so = absurd none
same_step c h ticket call other (gone sid) none so = absurd none
same_step c h ticket call other (passed one) none so = absurd none
same_step c h ticket call other (link_end word) none so = absurd none
same_step c h ticket call other closed none so = absurd none

pub given_once : GivenOnce
given_once c [] ticket call other none so = absurd none
given_once c ((place, step) ∷ h) ticket call other (inl now) (inl also) = same_step c h ticket call other step now also
given_once c ((place, step) ∷ h) ticket call other (inr before) (inr earlier) =
    given_once c h ticket call other before earlier
given_once c ((place, step) ∷ h) ticket call other (inl now) (inr earlier) =
    let most = given_most c h ticket other earlier in
    let is = same_given c h ticket call step now in
    absurd (omega (arith, most, is))
given_once c ((place, step) ∷ h) ticket call other (inr before) (inl also) =
    let most = given_most c h ticket call before in
    let is = same_given c h ticket other step also in
    absurd (omega (arith, most, is))

-- ---- the calls that wait for a ticket's turn

-- those that took a ticket
abbrev pub ticketed : List Call → List Call
ticketed [] = []
ticketed (call ∷ more) = cond (takes_ticket call) (call ∷ ticketed more) (ticketed more)

-- a call waits as this
abbrev pub WaitsAs : Call → Waits → Type 0
WaitsAs Flush next = next ≡ waits.Flush
WaitsAs (Request subject payload headers token) next = (next ≡ waits.Request) ⊎ (next ≡ waits.Late)
WaitsAs call next = ⊥

-- calls wait as these, and behind so many each was given the next ticket
abbrev pub Stands : Config → History → ℕ → List Call → List Waits → Type 0
Stands c h k [] [] = Unit {0}
Stands c h k [] (next ∷ queued) = ⊥
Stands c h k (call ∷ more) [] = ⊥
Stands c h k (call ∷ more) (next ∷ queued) =
    WaitsAs call next × WasGiven c (suc k) call h × Stands c h (suc k) more queued

-- with one step more
stands_on : (c : Config) (h : History) (place : ℕ) (step : Step) (k : ℕ) (xs : List Call) (qs : List Waits)
    → Stands c h k xs qs → Stands c ((place, step) ∷ h) k xs qs
stands_on c h place step k [] [] s = s
stands_on c h place step k [] (q ∷ qs) s = absurd s
stands_on c h place step k (x ∷ xs) [] s = absurd s
stands_on c h place step k (x ∷ xs) (q ∷ qs) (like, given, rest) = (like, inr given, stands_on c h place step (suc k) xs qs rest)

-- with one call more
stands_with : (c : Config) (h : History) (k : ℕ) (xs : List Call) (qs : List Waits) (call : Call) (next : Waits)
    → Stands c h k xs qs → WaitsAs call next → WasGiven c (suc (k + length qs)) call h
    → Stands c h k (xs ++ call ∷ []) (qs ++ next ∷ [])
stands_with c h k [] [] call next s like given =
    (like, subst (λ (n : ℕ). WasGiven c n call h) (omega arith) given, tt)
stands_with c h k [] (q ∷ qs) call next s like given = absurd s
stands_with c h k (x ∷ xs) [] call next s like given = absurd s
stands_with c h k (x ∷ xs) (q ∷ qs) call next (first_like, first_given, rest) like given = (
  first_like,
  first_given,
  stands_with c h (suc k) xs qs call next rest like (subst (λ (n : ℕ). WasGiven c n call h) (omega arith) given),
)

late_as : (call : Call) (next : Waits) → WaitsAs call next → WaitsAs call (waits_late next)
late_as Flush next is = ap waits_late is
late_as (Request subject payload headers token) next (inl is) = inr (ap waits_late is)
late_as (Request subject payload headers token) next (inr is) = inr (ap waits_late is)
late_as (Publish m) next none = absurd none
late_as (Subscribe subject group) next none = absurd none
late_as (Unsubscribe sid) next none = absurd none
late_as (Limit sid n) next none = absurd none
late_as (Drain sid) next none = absurd none
late_as DrainAll next none = absurd none
late_as (DropSub sid) next none = absurd none
late_as Reconnect next none = absurd none

-- one of them waits late from now on
late_at : (c : Config) (h : History) (i k : ℕ) (xs : List Call) (qs : List Waits) → Stands c h k xs qs
    → Stands c h k xs (at_index i waits_late qs)
late_at c h i k [] [] s = s
late_at c h i k [] (q ∷ qs) s = absurd s
late_at c h i k (x ∷ xs) [] s = absurd s
late_at c h zero k (x ∷ xs) (q ∷ qs) (like, given, rest) = (late_as x q like, given, rest)
late_at c h (suc i) k (x ∷ xs) (q ∷ qs) (like, given, rest) = (like, given, late_at c h i (suc k) xs qs rest)

late_of : (c : Config) (h : History) (n k : ℕ) (xs : List Call) (qs : List Waits) → Stands c h k xs qs
    → Stands c h k xs (at_number n waits_late qs)
late_of c h zero k xs qs s = s
late_of c h (suc i) k xs qs s = late_at c h i k xs qs s

late_len : (i : ℕ) (qs : List Waits) → length (at_index i waits_late qs) ≡ length qs
late_len i [] = refl
late_len zero (q ∷ qs) = refl
late_len (suc i) (q ∷ qs) = ap suc (late_len i qs)

late_length : (n : ℕ) (qs : List Waits) → length (at_number n waits_late qs) ≡ length qs
late_length zero qs = refl
late_length (suc i) qs = late_len i qs

-- ---- the calls that wait

drop_behind : (n : ℕ) (xs : List Call) (y : Call) → n ≤ length xs → drop n (xs ++ y ∷ []) ≡ drop n xs ++ y ∷ []
drop_behind zero xs y le = refl
drop_behind (suc n) [] y le = absurd (omega (arith, le))
drop_behind (suc n) (x ∷ xs) y le = drop_behind n xs y (omega (arith, le))

handled_most : (h : History) → handled_count h ≤ length (calls h)
handled_most [] = omega arith
handled_most ((place, accepted call) ∷ h) = let le = handled_most h in let e = length-append (calls h) (call ∷ []) in omega (arith, le, e)
handled_most ((place, handled call) ∷ h) = omega arith
handled_most ((place, closed) ∷ h) = omega arith
handled_most ((place, opened info) ∷ h) = handled_most h
handled_most ((place, fed bytes) ∷ h) = handled_most h
handled_most ((place, read operation) ∷ h) = handled_most h
handled_most ((place, ticked) ∷ h) = handled_most h
handled_most ((place, taken n) ∷ h) = handled_most h
handled_most ((place, took sid) ∷ h) = handled_most h
handled_most ((place, gone sid) ∷ h) = handled_most h
handled_most ((place, passed other) ∷ h) = handled_most h
handled_most ((place, link_end word) ∷ h) = handled_most h

-- the oldest is taken away
one_less : (n : ℕ) (xs : List Call) (call : Call) → first (drop n xs) ≡ Some call
    → (rest : List Call) × (drop n xs ≡ call ∷ rest) × (drop (min (suc n) (length xs)) xs ≡ rest)
one_less zero [] call is = absurd (none-some call is)
one_less zero (x ∷ xs) call is =
    let e : min 1 (suc (length xs)) ≡ 1 = omega arith in
    (xs, ap (λ (y : Call). y ∷ xs) (same_Some x call is), ap (λ (n : ℕ). drop n (x ∷ xs)) e)
one_less (suc n) [] call is = absurd (none-some call is)
one_less (suc n) (x ∷ xs) call is = more (one_less n xs call is)
  where
    more : (rest : List Call) × (drop n xs ≡ call ∷ rest) × (drop (min (suc n) (length xs)) xs ≡ rest)
        → (rest : List Call) × (drop n xs ≡ call ∷ rest) × (drop (min (suc (suc n)) (suc (length xs))) (x ∷ xs) ≡ rest)
    more (rest, all, less) =
        let e : min (suc (suc n)) (suc (length xs)) ≡ suc (min (suc n) (length xs)) = omega arith in
        (rest, all, ap (λ (m : ℕ). drop m (x ∷ xs)) e ∙ less)

-- ---- what tickets say of the calls that wait

abbrev pub Right : Config → History → List Call → Tickets → Type 0
Right c h xs t = Stands c h t.handled (ticketed xs) t.queued × (t.given ≡ t.handled + length t.queued)

flush_case : (c : Config) (h : History) (w : ℕ) (xs : List Call) (t : Tickets) (qs : List Waits) → t.queued ≡ qs
    → Stands c h t.handled (Flush ∷ ticketed xs) qs → t.given ≡ t.handled + length qs
    → Right c h xs (flush_handled w (first t.queued) t)
flush_case c h w xs t [] is s n = absurd s
flush_case c h w xs t (q ∷ qs) is (like, given, rest) n =
    subst (λ (o : Option Waits). Right c h xs (flush_handled w o t)) (sym (ap first is ∙ ap Some like)) (
      subst (λ (l : List Waits). Stands c h (suc t.handled) (ticketed xs) l) (sym (ap (drop 1) is)) rest,
      n ∙ omega arith ∙ sym (ap (λ (l : List Waits). suc t.handled + length (drop 1 l)) is),
    )

request_case : (c : Config) (h : History) (subject to payload token : List ℕ) (headers : Option Headers) (xs : List Call)
    (t : Tickets) (qs : List Waits) → t.queued ≡ qs
    → Stands c h t.handled (Request to payload headers token ∷ ticketed xs) qs → t.given ≡ t.handled + length qs
    → Right c h xs (request_handled subject (first t.queued) t)
request_case c h subject to payload token headers xs t [] is s n = absurd s
request_case c h subject to payload token headers xs t (q ∷ qs) is (like, given, rest) n = by like
  where
    queue : Stands c h (suc t.handled) (ticketed xs) (drop 1 t.queued)
    queue = subst (λ (l : List Waits). Stands c h (suc t.handled) (ticketed xs) l) (sym (ap (drop 1) is)) rest

    count : t.given ≡ suc t.handled + length (drop 1 t.queued)
    count = n ∙ omega arith ∙ sym (ap (λ (l : List Waits). suc t.handled + length (drop 1 l)) is)

    by : (q ≡ waits.Request) ⊎ (q ≡ waits.Late) → Right c h xs (request_handled subject (first t.queued) t)
    by (inl e) =
        subst (λ (o : Option Waits). Right c h xs (request_handled subject o t)) (sym (ap first is ∙ ap Some e))
        (queue, count)
    by (inr e) =
        subst (λ (o : Option Waits). Right c h xs (request_handled subject o t)) (sym (ap first is ∙ ap Some e))
        (queue, count)

handled_case : (c : Config) (h : History) (w : ℕ) (call : Call) (xs : List Call) (t : Tickets)
    → Right c h (call ∷ xs) t → Right c h xs (ticket_handled c w call t)
handled_case c h w (Publish m) xs t right = right
handled_case c h w (Subscribe subject group) xs t right = right
handled_case c h w (Unsubscribe sid) xs t right = right
handled_case c h w (Limit sid n) xs t right = right
handled_case c h w (Drain sid) xs t right = right
handled_case c h w DrainAll xs t right = right
handled_case c h w Flush xs t right = flush_case c h w xs t t.queued refl right.0 right.1
handled_case c h w (Request to payload headers token) xs t right =
    request_case c h (inbox_of c token) to payload token headers xs t t.queued refl right.0 right.1
handled_case c h w (DropSub sid) xs t right = right
handled_case c h w Reconnect xs t right = right

right_on : (c : Config) (h : History) (place : ℕ) (step : Step) (xs : List Call) (t : Tickets) → Right c h xs t
    → Right c ((place, step) ∷ h) xs t
right_on c h place step xs t right = (stands_on c h place step t.handled (ticketed xs) t.queued right.0, right.1)

ticketed_with : (xs : List Call) (call : Call) → ticketed (xs ++ call ∷ []) ≡ ticketed xs ++ ticketed (call ∷ [])
ticketed_with [] call = refl
ticketed_with (x ∷ xs) call = by (takes_ticket x) (ticketed_with xs call)
  where
    by : (b : Bool) → ticketed (xs ++ call ∷ []) ≡ ticketed xs ++ ticketed (call ∷ [])
        → cond b (x ∷ ticketed (xs ++ call ∷ [])) (ticketed (xs ++ call ∷ []))
        ≡ cond b (x ∷ ticketed xs) (ticketed xs) ++ ticketed (call ∷ [])
    by true e = ap (λ (l : List Call). x ∷ l) e
    by false e = e

-- a call that takes a ticket is accepted
taken_in : (c : Config) (h : History) (place : ℕ) (call : Call) (next : Waits) (xs : List Call) (t : Tickets)
    → t ≡ tickets c h → takes_ticket call ≡ true → WaitsAs call next → Right c h xs t
    → Stands c ((place, accepted call) ∷ h) t.handled (ticketed xs ++ call ∷ []) (t.queued ++ next ∷ [])
taken_in c h place call next xs t is takes like right =
    stands_with c ((place, accepted call) ∷ h) t.handled (ticketed xs) t.queued call next
    (stands_on c h place (accepted call) t.handled (ticketed xs) t.queued right.0) like
    (inl (refl, takes, ap suc (sym right.1) ∙ ap (λ (u : Tickets). suc u.given) is))

accept_plain : (c : Config) (h : History) (place : ℕ) (call : Call) (w : ℕ) → takes_ticket call ≡ false
    → waits_as call ≡ None → Right c h (waiting_calls h) (tickets c h)
    → Right c ((place, accepted call) ∷ h) (waiting_calls h ++ call ∷ []) (tickets_after c w (accepted call) (tickets c h))
accept_plain c h place call w takes none right =
    let t = tickets c h in
    let xs = waiting_calls h in
    let e : ticketed (xs ++ call ∷ []) ≡ ticketed xs =
    ticketed_with xs call ∙ ap (λ (b : Bool). ticketed xs ++ cond b (call ∷ []) []) takes ∙ append-nil (ticketed xs) in (
      subst (λ (l : List Waits). Stands c ((place, accepted call) ∷ h) t.handled (ticketed (xs ++ call ∷ [])) l)
          (sym (ap (λ (o : Option Waits). queued_with o t.queued) none))
          (subst (λ (l : List Call). Stands c ((place, accepted call) ∷ h) t.handled l t.queued) (sym e)
          (stands_on c h place (accepted call) t.handled (ticketed xs) t.queued right.0)),
      ap (λ (b : Bool). cond b (suc t.given) t.given) takes ∙ right.1
          ∙ sym (ap (λ (o : Option Waits). t.handled + length (queued_with o t.queued)) none),
    )

accept_ticket : (c : Config) (h : History) (place : ℕ) (call : Call) (next : Waits) (w : ℕ) → takes_ticket call ≡ true
    → waits_as call ≡ Some next → WaitsAs call next → Right c h (waiting_calls h) (tickets c h)
    → Right c ((place, accepted call) ∷ h) (waiting_calls h ++ call ∷ []) (tickets_after c w (accepted call) (tickets c h))
accept_ticket c h place call next w takes some like right =
    let t = tickets c h in
    let xs = waiting_calls h in
    let e : ticketed (xs ++ call ∷ []) ≡ ticketed xs ++ call ∷ [] =
    ticketed_with xs call ∙ ap (λ (b : Bool). ticketed xs ++ cond b (call ∷ []) []) takes in (
      subst (λ (l : List Waits). Stands c ((place, accepted call) ∷ h) t.handled (ticketed (xs ++ call ∷ [])) l)
          (sym (ap (λ (o : Option Waits). queued_with o t.queued) some))
          (subst (λ (l : List Call). Stands c ((place, accepted call) ∷ h) t.handled l (t.queued ++ next ∷ [])) (sym e)
          (taken_in c h place call next xs t refl takes like right)),
      let n = right.1 in
          let l = length-append t.queued (next ∷ []) in
          ap (λ (b : Bool). cond b (suc t.given) t.given) takes ∙ ap suc n ∙ omega (arith, l)
          ∙ sym (ap (λ (o : Option Waits). t.handled + length (queued_with o t.queued)) some),
    )

accept_case : (c : Config) (h : History) (place : ℕ) (call : Call) (w : ℕ) → Right c h (waiting_calls h) (tickets c h)
    → Right c ((place, accepted call) ∷ h) (waiting_calls h ++ call ∷ []) (tickets_after c w (accepted call) (tickets c h))
accept_case c h place (Publish m) w right = accept_plain c h place (Publish m) w refl refl right
accept_case c h place (Subscribe subject group) w right =
    accept_plain c h place (Subscribe subject group) w refl refl right
accept_case c h place (Unsubscribe sid) w right = accept_plain c h place (Unsubscribe sid) w refl refl right
accept_case c h place (Limit sid n) w right = accept_plain c h place (Limit sid n) w refl refl right
accept_case c h place (Drain sid) w right = accept_plain c h place (Drain sid) w refl refl right
accept_case c h place DrainAll w right = accept_plain c h place DrainAll w refl refl right
accept_case c h place Flush w right = accept_ticket c h place Flush waits.Flush w refl refl refl right
accept_case c h place (Request to payload headers token) w right =
    accept_ticket c h place (Request to payload headers token) waits.Request w refl refl (inl refl) right
accept_case c h place (DropSub sid) w right = accept_plain c h place (DropSub sid) w refl refl right
accept_case c h place Reconnect w right = accept_plain c h place Reconnect w refl refl right

-- the tickets tell of the calls that wait
pub right : (c : Config) (h : History) → InOrder h → Right c h (waiting_calls h) (tickets c h)
right c [] order = (tt, refl)
right c ((place, accepted call) ∷ h) order =
    subst (λ (xs : List Call). Right c ((place, accepted call) ∷ h) xs (tickets c ((place, accepted call) ∷ h)))
    (sym (drop_behind (handled_count h) (calls h) call (handled_most h)))
    (accept_case c h place call (length (waiting_bytes c h)) (right c h order.1))
right c ((place, handled call) ∷ h) order = by (one_less (handled_count h) (calls h) call order.0) (right c h order.1)
  where
    by : (rest : List Call) × (waiting_calls h ≡ call ∷ rest)
        × (drop (min (suc (handled_count h)) (length (calls h))) (calls h) ≡ rest)
        → Right c h (waiting_calls h) (tickets c h)
        → Right c ((place, handled call) ∷ h) (waiting_calls ((place, handled call) ∷ h))
        (tickets c ((place, handled call) ∷ h))
    by (rest, all, less) before =
        subst (λ (xs : List Call). Right c ((place, handled call) ∷ h) xs (tickets c ((place, handled call) ∷ h)))
        (sym less)
        (right_on c h place (handled call) rest (ticket_handled c (length (waiting_bytes c h)) call (tickets c h))
        (handled_case c h (length (waiting_bytes c h)) call rest (tickets c h)
        (subst (λ (xs : List Call). Right c h xs (tickets c h)) all before)))
right c ((place, closed) ∷ h) order = (tt, omega arith)
right c ((place, opened info) ∷ h) order = right_on c h place (opened info) (waiting_calls h) (tickets c h) (right c h order.1)
right c ((place, fed bytes) ∷ h) order = right_on c h place (fed bytes) (waiting_calls h) (tickets c h) (right c h order.1)
right c ((place, read operation) ∷ h) order =
    right_on c h place (read operation) (waiting_calls h) (tickets c h) (right c h order.1)
right c ((place, ticked) ∷ h) order = right_on c h place ticked (waiting_calls h) (tickets c h) (right c h order.1)
right c ((place, taken n) ∷ h) order = right_on c h place (taken n) (waiting_calls h) (tickets c h) (right c h order.1)
right c ((place, took sid) ∷ h) order = right_on c h place (took sid) (waiting_calls h) (tickets c h) (right c h order.1)
right c ((place, gone sid) ∷ h) order = right_on c h place (gone sid) (waiting_calls h) (tickets c h) (right c h order.1)
right c ((place, link_end word) ∷ h) order =
    right_on c h place (link_end word) (waiting_calls h) (tickets c h) (right c h order.1)
right c ((place, passed other) ∷ h) order =
    let t = tickets c h in
    let r = right_on c h place (passed other) (waiting_calls h) t (right c h order.1) in (
      late_of c ((place, passed other) ∷ h) (other - t.handled) t.handled (ticketed (waiting_calls h)) t.queued r.0,
      r.1 ∙ sym (ap (λ (n : ℕ). t.handled + n) (late_length (other - t.handled) t.queued)),
    )

-- ---- what is handled is what was given

front_given : (c : Config) (h : History) (k : ℕ) (call : Call) (xs : List Call) (qs : List Waits)
    → waits_as call ≡ Some waits.Request → Stands c h k (ticketed (call ∷ xs)) qs → WasGiven c (suc k) call h
front_given c h k (Request to payload headers token) xs [] is s = absurd s
front_given c h k (Request to payload headers token) xs (q ∷ qs) is (like, given, rest) = given
front_given c h k (Publish m) xs qs is s = absurd (none-some waits.Request is)
front_given c h k (Subscribe subject group) xs qs is s = absurd (none-some waits.Request is)
front_given c h k (Unsubscribe sid) xs qs is s = absurd (none-some waits.Request is)
front_given c h k (Limit sid n) xs qs is s = absurd (none-some waits.Request is)
front_given c h k (Drain sid) xs qs is s = absurd (none-some waits.Request is)
front_given c h k DrainAll xs qs is s = absurd (none-some waits.Request is)
front_given c h k Flush xs qs is s = let no : waits.Flush ≡ waits.Request = same_Some waits.Flush waits.Request is in cc
front_given c h k (DropSub sid) xs qs is s = absurd (none-some waits.Request is)
front_given c h k Reconnect xs qs is s = absurd (none-some waits.Request is)

pub handled_as_given : HandledAsGiven
handled_as_given c h ticket call (handled other) order oldest (is, waits, queued, number) =
    by (one_less (handled_count h) (calls h) other oldest)
  where
    by : (rest : List Call) × (waiting_calls h ≡ other ∷ rest)
        × (drop (min (suc (handled_count h)) (length (calls h))) (calls h) ≡ rest) → WasGiven c ticket call h
    by (rest, all, less) =
        let t = tickets c h in
        let r = right c h order in
        subst (λ (n : ℕ). WasGiven c n call h) (sym number)
        (front_given c h t.handled call rest t.queued waits
        (subst (λ (xs : List Call). Stands c h t.handled (ticketed xs) t.queued) (all ∙ ap (λ (x : Call). x ∷ rest) is) r.0))
handled_as_given c h ticket call (opened info) order oldest none = absurd none
handled_as_given c h ticket call (fed bytes) order oldest none = absurd none
handled_as_given c h ticket call (read operation) order oldest none = absurd none
handled_as_given c h ticket call ticked order oldest none = absurd none
handled_as_given c h ticket call (taken n) order oldest none = absurd none
handled_as_given c h ticket call (accepted other) order oldest none = absurd none
handled_as_given c h ticket call (took sid) order oldest none = absurd none
handled_as_given c h ticket call (gone sid) order oldest none = absurd none
handled_as_given c h ticket call (passed other) order oldest none = absurd none
handled_as_given c h ticket call (link_end word) order oldest none = absurd none
handled_as_given c h ticket call closed order oldest none = absurd none
