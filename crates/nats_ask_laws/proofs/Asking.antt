-- Since when a request waits, and that no two wait for one subject.
use Rattle.std.specs.Str.{bytes_eq}
use Rattle.std.proofs.Common.{◌≡◌, ℕ, suc, ◌≤◌, Bool, true, false, cond, ◌==◌, ◌⊎◌, inl, inr, List, [], ◌∷◌, ◌++◌, length, Option, Some, None, refl, sym, ◌∙◌, ap, subst, arith}
use Rattle.std.proofs.lemmas.Bool.{false≢true, eqb-true, eq-eqb}
use Rattle.std.proofs.lemmas.Slice.Eq.{bytes_eq-Decides}
use Rattle.nats_lines.specs.Operations.{Operation, message}
use Rattle.nats_history.specs.declared.config.Config.{Config}
use Rattle.nats_history.specs.declared.call.Call.{Call}
use Rattle.nats_history.specs.declared.call.Call.TheVariants.{Flush, Request}
use Rattle.nats_history.specs.declared.waits.Waits.{Waits}
use Rattle.nats_history.specs.declared.waits.Waits.TheVariants as waits
use Rattle.nats_history.specs.Queue.{first}
use Rattle.nats_history.specs.History.{Step, read, handled, passed, closed, History, inbox_of, waiting_bytes}
use Rattle.nats_history.specs.Tickets.{Tickets, flush_handled, requests_elsewhere, requests_but, request_handled, ticket_handled, asking_after, tickets_after, tickets}
use Rattle.nats_ask_laws.specs.Asked.{WaitsAt, is_of_asking, Asks, LeavesAlone, WasAsked}
use Rattle.nats_ask_laws.specs.Laws.{SinceAsked, OneSubject, OneAsked}

abbrev pub Requests : Type 0
Requests = List (ℕ × List ℕ)

pub same_bytes : (a b : List ℕ) → bytes_eq a b ≡ true → a ≡ b
same_bytes a b e = (bytes_eq-Decides a b).0 e

pub bytes_same : (a b : List ℕ) → a ≡ b → bytes_eq a b ≡ true
bytes_same a b e = (bytes_eq-Decides a b).1 e

-- ---- what is taken away or put behind

elsewhere_in : (s : List ℕ) (rs : Requests) (k : ℕ) (u : List ℕ) → WaitsAt k u (requests_elsewhere s rs) → WaitsAt k u rs
elsewhere_in s [] k u at = at
elsewhere_in s (r ∷ rs) k u at = by (bytes_eq s r.1) at (elsewhere_in s rs k u)
  where
    by : (b : Bool) → WaitsAt k u (cond b rs (r ∷ requests_elsewhere s rs)) → (WaitsAt k u (requests_elsewhere s rs) → WaitsAt k u rs)
        → ((k ≡ r.0) × (u ≡ r.1)) ⊎ WaitsAt k u rs
    by true at later = inr at
    by false (inl here) later = inl here
    by false (inr there) later = inr (later there)

but_in : (t : ℕ) (rs : Requests) (k : ℕ) (u : List ℕ) → WaitsAt k u (requests_but t rs) → WaitsAt k u rs
but_in t [] k u at = at
but_in t (r ∷ rs) k u at = by (t == r.0) at (but_in t rs k u)
  where
    by : (b : Bool) → WaitsAt k u (cond b rs (r ∷ requests_but t rs)) → (WaitsAt k u (requests_but t rs) → WaitsAt k u rs)
        → ((k ≡ r.0) × (u ≡ r.1)) ⊎ WaitsAt k u rs
    by true at later = inr at
    by false (inl here) later = inl here
    by false (inr there) later = inr (later there)

behind_in : (rs : Requests) (t : ℕ) (s : List ℕ) (k : ℕ) (u : List ℕ) → WaitsAt k u (rs ++ (t, s) ∷ []) → WaitsAt k u rs ⊎ ((k ≡ t) × (u ≡ s))
behind_in [] t s k u (inl here) = inr here
behind_in [] t s k u (inr none) = absurd none
behind_in (r ∷ rs) t s k u (inl here) = inl (inl here)
behind_in (r ∷ rs) t s k u (inr there) = by (behind_in rs t s k u there)
  where
    by : WaitsAt k u rs ⊎ ((k ≡ t) × (u ≡ s)) → WaitsAt k u (r ∷ rs) ⊎ ((k ≡ t) × (u ≡ s))
    by (inl at) = inl (inr at)
    by (inr is) = inr is

-- ---- requests that are apart: each ticket and each subject stands once

abbrev pub Apart : Requests → Type 0
Apart [] = Unit {0}
Apart (r ∷ rs) =
    ((k : ℕ) → WaitsAt k r.1 rs → ⊥) × ((u : List ℕ) → WaitsAt r.0 u rs → ⊥) × Apart rs

elsewhere_apart : (s : List ℕ) (rs : Requests) → Apart rs → Apart (requests_elsewhere s rs)
elsewhere_apart s [] apart = tt
elsewhere_apart s (r ∷ rs) apart = by (bytes_eq s r.1) (elsewhere_apart s rs apart.2)
  where
    by : (b : Bool) → Apart (requests_elsewhere s rs) → Apart (cond b rs (r ∷ requests_elsewhere s rs))
    by true later = apart.2
    by false later =
        (λ k at. apart.0 k (elsewhere_in s rs k r.1 at), λ u at. apart.1 u (elsewhere_in s rs r.0 u at), later)

but_apart : (t : ℕ) (rs : Requests) → Apart rs → Apart (requests_but t rs)
but_apart t [] apart = tt
but_apart t (r ∷ rs) apart = by (t == r.0) (but_apart t rs apart.2)
  where
    by : (b : Bool) → Apart (requests_but t rs) → Apart (cond b rs (r ∷ requests_but t rs))
    by true later = apart.2
    by false later =
        (λ k at. apart.0 k (but_in t rs k r.1 at), λ u at. apart.1 u (but_in t rs r.0 u at), later)

behind_apart : (rs : Requests) (t : ℕ) (s : List ℕ) → Apart rs → ((k : ℕ) → WaitsAt k s rs → ⊥) → ((u : List ℕ) → WaitsAt t u rs → ⊥)
    → Apart (rs ++ (t, s) ∷ [])
behind_apart [] t s apart no_subject no_ticket = (λ k none. none, λ u none. none, tt)
behind_apart (r ∷ rs) t s apart no_subject no_ticket =
    (λ k at. subjects k (behind_in rs t s k r.1 at), λ u at. numbers u (behind_in rs t s r.0 u at), behind_apart rs t s apart.2 (λ k at. no_subject k (inr at)) (λ u at. no_ticket u (inr at)))
  where
    subjects : (k : ℕ) → WaitsAt k r.1 rs ⊎ ((k ≡ t) × (r.1 ≡ s)) → ⊥
    subjects k (inl at) = apart.0 k at
    subjects k (inr is) = no_subject r.0 (inl (refl, sym is.1))

    numbers : (u : List ℕ) → WaitsAt r.0 u rs ⊎ ((r.0 ≡ t) × (u ≡ s)) → ⊥
    numbers u (inl at) = apart.1 u at
    numbers u (inr is) = no_ticket r.1 (inl (sym is.0, refl))

-- a subject is found nowhere once its request is taken away
elsewhere_gone : (s : List ℕ) (rs : Requests) → Apart rs → (k : ℕ) → WaitsAt k s (requests_elsewhere s rs) → ⊥
elsewhere_gone s [] apart k at = at
elsewhere_gone s (r ∷ rs) apart k at = by (bytes_eq s r.1) refl at (elsewhere_gone s rs apart.2 k)
  where
    by : (b : Bool) → bytes_eq s r.1 ≡ b → WaitsAt k s (cond b rs (r ∷ requests_elsewhere s rs)) → (WaitsAt k s (requests_elsewhere s rs) → ⊥) → ⊥
    by true same at later = apart.0 k (subst (λ u. WaitsAt k u rs) (same_bytes s r.1 same) at)
    by false other (inl here) later = false≢true (sym other ∙ bytes_same s r.1 here.1)
    by false other (inr there) later = later there

-- nor a ticket
but_gone : (t : ℕ) (rs : Requests) → Apart rs → (u : List ℕ) → WaitsAt t u (requests_but t rs) → ⊥
but_gone t [] apart u at = at
but_gone t (r ∷ rs) apart u at = by (t == r.0) refl at (but_gone t rs apart.2 u)
  where
    by : (b : Bool) → (t == r.0) ≡ b → WaitsAt t u (cond b rs (r ∷ requests_but t rs)) → (WaitsAt t u (requests_but t rs) → ⊥) → ⊥
    by true same at later = apart.1 u (subst (λ k. WaitsAt k u rs) (eqb-true t r.0 same) at)
    by false other (inl here) later = false≢true (sym other ∙ eq-eqb t r.0 here.0)
    by false other (inr there) later = later there

-- ---- what each step keeps

abbrev pub AllUpTo : ℕ → Requests → Type 0
AllUpTo n rs = (k : ℕ) (u : List ℕ) → WaitsAt k u rs → k ≤ n

pub record Sound (t : Tickets) : Type 0 where
  pub apart : Apart t.asking
  pub most : AllUpTo t.handled t.asking

abbrev tickets_with : ℕ → ℕ → List Bool → List Waits → Requests → Tickets → Tickets
tickets_with given done kinds queued asking t =
    record { given = given; handled = done; of_request = kinds; queued = queued; flushing = t.flushing; asking = asking }

-- a further request takes the place of one with its subject
asked_apart : (s : List ℕ) (n : ℕ) (rs : Requests) → Apart rs → AllUpTo n rs → Apart (requests_elsewhere s rs ++ (suc n, s) ∷ [])
asked_apart s n rs apart most =
    behind_apart (requests_elsewhere s rs) (suc n) s (elsewhere_apart s rs apart) (elsewhere_gone s rs apart)
    (λ u at. let over : suc n ≤ n = most (suc n) u (elsewhere_in s rs (suc n) u at) in omega (arith, over))

asked_most : (s : List ℕ) (n : ℕ) (rs : Requests) → AllUpTo n rs → AllUpTo (suc n) (requests_elsewhere s rs ++ (suc n, s) ∷ [])
asked_most s n rs most k u at = by (behind_in (requests_elsewhere s rs) (suc n) s k u at)
  where
    by : WaitsAt k u (requests_elsewhere s rs) ⊎ ((k ≡ suc n) × (u ≡ s)) → k ≤ suc n
    by (inl there) = let before : k ≤ n = most k u (elsewhere_in s rs k u there) in omega (arith, before)
    by (inr is) = omega (arith, is.0)

sound_request : (s : List ℕ) (next : Option Waits) (t : Tickets) → Sound t → Sound (request_handled s next t)
sound_request s None t sound = sound
sound_request s (Some waits.Flush) t sound = sound
sound_request s (Some waits.Request) t sound =
    record { apart = asked_apart s t.handled t.asking sound.apart sound.most; most = asked_most s t.handled t.asking sound.most }
sound_request s (Some waits.Late) t sound = record {
  apart = elsewhere_apart s t.asking sound.apart;
  most = λ k u at. let before : k ≤ t.handled = sound.most k u (elsewhere_in s t.asking k u at) in omega (arith, before);
}

sound_flush : (waiting : ℕ) (next : Option Waits) (t : Tickets) → Sound t → Sound (flush_handled waiting next t)
sound_flush waiting None t sound = sound
sound_flush waiting (Some waits.Request) t sound = sound
sound_flush waiting (Some waits.Late) t sound = sound
sound_flush waiting (Some waits.Flush) t sound =
    record { apart = sound.apart; most = λ k u at. let before : k ≤ t.handled = sound.most k u at in omega (arith, before) }

sound_handled : (c : Config) (waiting : ℕ) (call : Call) (t : Tickets) → Sound t → Sound (ticket_handled c waiting call t)
sound_handled c waiting Flush t sound = sound_flush waiting (first t.queued) t sound
sound_handled c waiting (Request to payload headers token) t sound =
    sound_request (inbox_of c token) (first t.queued) t sound
sound_handled c waiting call t sound = sound

abbrev with_asking : Tickets → Requests → Tickets
with_asking t rs = record t { asking = rs }

sound_fewer : (t : Tickets) (rs : Requests) → Sound t → Apart rs → ((k : ℕ) (u : List ℕ) → WaitsAt k u rs → WaitsAt k u t.asking) → Sound (with_asking t rs)
sound_fewer t rs sound apart fewer = record { apart = apart; most = λ k u at. sound.most k u (fewer k u at) }

sound_read : (operation : Operation) (t : Tickets) → Sound t → Sound (with_asking t (asking_after operation t.asking))
sound_read (message sid m) t sound = by (sid == 0)
  where
    by : (b : Bool) → Sound (with_asking t (cond b (requests_elsewhere m.subject t.asking) t.asking))
    by true =
        sound_fewer t (requests_elsewhere m.subject t.asking) sound (elsewhere_apart m.subject t.asking sound.apart) (elsewhere_in m.subject t.asking)
    by false = record { apart = sound.apart; most = sound.most }
sound_read operation t sound = record { apart = sound.apart; most = sound.most }

sound_after : (c : Config) (waiting : ℕ) (step : Step) (t : Tickets) → Sound t → Sound (tickets_after c waiting step t)
sound_after c waiting (handled call) t sound = sound_handled c waiting call t sound
sound_after c waiting (read operation) t sound = sound_read operation t sound
sound_after c waiting (passed ticket) t sound = record {
  apart = but_apart ticket t.asking sound.apart;
  most = λ k u at. sound.most k u (but_in ticket t.asking k u at);
}
sound_after c waiting closed t sound = record { apart = tt; most = λ k u none. absurd none }
sound_after c waiting step t sound = record { apart = sound.apart; most = sound.most }

pub sound_at : (c : Config) (h : History) → Sound (tickets c h)
sound_at c [] = record { apart = tt; most = λ k u none. absurd none }
sound_at c ((place, step) ∷ h) = sound_after c (length (waiting_bytes c h)) step (tickets c h) (sound_at c h)

-- ---- where a request that waits comes from

abbrev Traced : Config → ℕ → List ℕ → Tickets → Step → Type 0
Traced c k u t step = Asks c k u t step ⊎ (LeavesAlone c k u t step × WaitsAt k u t.asking)

traced_request : (s : List ℕ) (k : ℕ) (u : List ℕ) (next : Option Waits) (t : Tickets) → Sound t → WaitsAt k u (request_handled s next t).asking
    → ((next ≡ Some waits.Request) × (s ≡ u) × (k ≡ suc t.handled)) ⊎ ((is_of_asking next ≡ true → s ≡ u → ⊥) × WaitsAt k u t.asking)
traced_request s k u None t sound at = inr (λ is. absurd (false≢true is), at)
traced_request s k u (Some waits.Flush) t sound at = inr (λ is. absurd (false≢true is), at)
traced_request s k u (Some waits.Late) t sound at =
    inr (λ is same. elsewhere_gone s t.asking sound.apart k (subst (λ v. WaitsAt k v (requests_elsewhere s t.asking)) (sym same) at), elsewhere_in s t.asking k u at)
traced_request s k u (Some waits.Request) t sound at = by (behind_in (requests_elsewhere s t.asking) (suc t.handled) s k u at)
  where
    by : WaitsAt k u (requests_elsewhere s t.asking) ⊎ ((k ≡ suc t.handled) × (u ≡ s))
        → ((Some waits.Request ≡ Some waits.Request) × (s ≡ u) × (k ≡ suc t.handled)) ⊎ ((is_of_asking (Some waits.Request) ≡ true → s ≡ u → ⊥) × WaitsAt k u t.asking)
    by (inl there) =
        inr (λ is same. elsewhere_gone s t.asking sound.apart k (subst (λ v. WaitsAt k v (requests_elsewhere s t.asking)) (sym same) there), elsewhere_in s t.asking k u there)
    by (inr is) = inl (refl, sym is.1, is.0)

traced_flush : (waiting k : ℕ) (u : List ℕ) (next : Option Waits) (t : Tickets) → WaitsAt k u (flush_handled waiting next t).asking → WaitsAt k u t.asking
traced_flush waiting k u None t at = at
traced_flush waiting k u (Some waits.Flush) t at = at
traced_flush waiting k u (Some waits.Request) t at = at
traced_flush waiting k u (Some waits.Late) t at = at

traced_handled : (c : Config) (waiting k : ℕ) (u : List ℕ) (call : Call) (t : Tickets) → Sound t → WaitsAt k u (ticket_handled c waiting call t).asking
    → Traced c k u t (handled call)
traced_handled c waiting k u Flush t sound at = inr (tt, traced_flush waiting k u (first t.queued) t at)
traced_handled c waiting k u (Request to payload headers token) t sound at =
    traced_request (inbox_of c token) k u (first t.queued) t sound at
traced_handled c waiting k u call t sound at = inr (tt, at)

traced_read : (c : Config) (k : ℕ) (u : List ℕ) (operation : Operation) (t : Tickets) → Sound t → WaitsAt k u (asking_after operation t.asking)
    → Traced c k u t (read operation)
traced_read c k u (message sid m) t sound at = by (sid == 0) refl at
  where
    by : (b : Bool) → (sid == 0) ≡ b → WaitsAt k u (cond b (requests_elsewhere m.subject t.asking) t.asking) → Traced c k u t (read (message sid m))
    by true is at =
        inr (λ zero same. elsewhere_gone m.subject t.asking sound.apart k (subst (λ v. WaitsAt k v (requests_elsewhere m.subject t.asking)) (sym same) at), elsewhere_in m.subject t.asking k u at)
    by false is at = inr (λ zero same. false≢true (sym is ∙ eq-eqb sid 0 zero), at)
traced_read c k u operation t sound at = inr (tt, at)

traced : (c : Config) (waiting k : ℕ) (u : List ℕ) (step : Step) (t : Tickets) → Sound t → WaitsAt k u (tickets_after c waiting step t).asking → Traced c k u t step
traced c waiting k u (handled call) t sound at = traced_handled c waiting k u call t sound at
traced c waiting k u (read operation) t sound at = traced_read c k u operation t sound at
traced c waiting k u (passed ticket) t sound at =
    inr (λ same. but_gone ticket t.asking sound.apart u (subst (λ n. WaitsAt n u (requests_but ticket t.asking)) (sym same) at), but_in ticket t.asking k u at)
traced c waiting k u closed t sound at = absurd at
traced c waiting k u step t sound at = inr (tt, at)

pub since_asked : SinceAsked
since_asked c [] ticket subject at = at
since_asked c ((place, step) ∷ h) ticket subject at =
    by (traced c (length (waiting_bytes c h)) ticket subject step (tickets c h) (sound_at c h) at) (since_asked c h ticket subject)
  where
    by : Traced c ticket subject (tickets c h) step → (WaitsAt ticket subject (tickets c h).asking → WasAsked c ticket subject h)
        → WasAsked c ticket subject ((place, step) ∷ h)
    by (inl asks) before = inl asks
    by (inr waits) before = inr (waits.0, before waits.1)

-- ---- one for each subject

one_of : (rs : Requests) → Apart rs → (k n : ℕ) (u : List ℕ) → WaitsAt k u rs → WaitsAt n u rs → k ≡ n
one_of [] apart k n u at other = absurd at
one_of (r ∷ rs) apart k n u (inl here) (inl same) = here.0 ∙ sym same.0
one_of (r ∷ rs) apart k n u (inl here) (inr there) =
    absurd (apart.0 n (subst (λ v. WaitsAt n v rs) here.1 there))
one_of (r ∷ rs) apart k n u (inr there) (inl here) =
    absurd (apart.0 k (subst (λ v. WaitsAt k v rs) here.1 there))
one_of (r ∷ rs) apart k n u (inr at) (inr other) = one_of rs apart.2 k n u at other

pub one_subject : OneSubject
one_subject c h ticket other subject at there = one_of (tickets c h).asking (sound_at c h).apart ticket other subject at there

-- ---- one request for each message

is_asking_of : (o : Option Waits) → o ≡ Some waits.Request → is_of_asking o ≡ true
is_asking_of o e = ap is_of_asking e

both_ask : (c : Config) (k n : ℕ) (u : List ℕ) (t : Tickets) (step : Step) → Asks c k u t step → Asks c n u t step → k ≡ n
both_ask c k n u t (handled (Request to payload headers token)) asks other = asks.2 ∙ sym other.2
both_ask c k n u t step asks other = absurd asks

asks_alone : (c : Config) (k n : ℕ) (u : List ℕ) (t : Tickets) (step : Step) → Asks c k u t step → LeavesAlone c n u t step → ⊥
asks_alone c k n u t (handled (Request to payload headers token)) asks leaves =
    leaves (is_asking_of (first t.queued) asks.0) asks.1
asks_alone c k n u t step asks leaves = asks

pub one_asked : OneAsked
one_asked c [] ticket other subject asked there = absurd asked
one_asked c ((place, step) ∷ h) ticket other subject asked there = by asked there (one_asked c h ticket other subject)
  where
    by : WasAsked c ticket subject ((place, step) ∷ h) → WasAsked c other subject ((place, step) ∷ h)
        → (WasAsked c ticket subject h → WasAsked c other subject h → ticket ≡ other) → ticket ≡ other
    by (inl asks) (inl same) before = both_ask c ticket other subject (tickets c h) step asks same
    by (inl asks) (inr alone) before =
        absurd (asks_alone c ticket other subject (tickets c h) step asks alone.0)
    by (inr alone) (inl asks) before =
        absurd (asks_alone c other ticket subject (tickets c h) step asks alone.0)
    by (inr alone) (inr there) before = before alone.1 there.1
