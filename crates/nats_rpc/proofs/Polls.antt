-- What a poll comes to, by what its calls came to.
use Rattle.std.proofs.Common.{◌≡◌, ℕ, suc, ◌+◌, ◌-◌, ◌^◌, ◌<◌, Bool, true, false, cond, ◌==◌, List, [], ◌∷◌, Option, Some, None, Result, Ok, Err, IfOk, OnOk, OnErr, ◌⊎◌, inl, inr, refl, sym, ◌∙◌, ap, subst}
use Rattle.std.specs.Prelude.{IsOk, IsErr, slice_set, slice_index_or}
use Rattle.std.proofs.lemmas.Bool.{false≢true}
use Rattle.std.proofs.lemmas.Option.{none-some, same_Some}
use Rattle.nats_names.specs.declared.failed.NoMemory.{NoMemory}
use Rattle.nats_history.specs.declared.call.CallReply.{CallReply}
use Rattle.nats_tickets.specs.Kept.{reply_in, without}
use Rattle.nats_history.specs.declared.turn.Turn.TheVariants as turns
use Rattle.nats_core.specs.declared.answers.StepError.{StepError}
use Rattle.nats_core.specs.declared.answers.StepError.TheVariants as refused
use Rattle.nats_core.specs.declared.entry.StepReply.{StepReply}
use Rattle.nats_core.specs.Journal.{Logged, caught_up}
use Rattle.nats_core.specs.Calls.{PlaysDue, Steps}
use Rattle.nats_rpc.specs.declared.outcome.Outcome.{Outcome}
use Rattle.nats_rpc.specs.declared.asked.Attempt.{Attempt}
use Rattle.nats_rpc.specs.declared.asked.Stage.{Stage}
use Rattle.nats_rpc.specs.declared.asked.Stage.TheVariants as stages
use Rattle.nats_rpc.specs.declared.asked.Phase.TheVariants as phases
use Rattle.nats_rpc.specs.declared.asked.Asked.{Asked}
use Rattle.nats_rpc.specs.declared.terms.Terms.{Terms}
use Rattle.nats_rpc.specs.Calls.{phase_of, is_over, outcome_in, takes_memory, rested}
use Rattle.nats_rpc.specs.Polling.{taken_out, is_wanting, PlaysDeadline, Expires, Sends, Tries, unsent, sent, Waits, over, MovesFrom, Moves, Calling, calling_of, Tells, MovesCall, Polls, polled}

-- the next request was submitted, or memory was wanting for it
pub tries_sent : (terms : Terms) (now numbers : ℕ) (asked : Asked) (old : Logged) (r : Result (Unit {0}) NoMemory)
    (numbers' : ℕ) (asked' : Asked) (new : Logged)
    → asked.tried < terms.tries → numbers < 2 ^ 64 - 1 → OnOk r (Sends terms now numbers asked old numbers' asked' new)
    → OnErr r (PlaysDue old new) → OnErr r (numbers' ≡ numbers) → OnErr r (asked' ≡ asked)
    → Tries terms now numbers asked old r numbers' asked' new
tries_sent terms now numbers asked old (Ok u) numbers' asked' new left some sends due same stay =
    sent left some refl sends
tries_sent terms now numbers asked old (Err e) numbers' asked' new left some sends due same stay =
    unsent left some refl stay same due

-- nothing is taken out where nothing is
none_without : (t : ℕ) (xs : List (ℕ × CallReply)) → reply_in t xs ≡ None → without t xs ≡ xs
none_without t [] none = refl
none_without t (x ∷ xs) none = by (t == x.0) none (none_without t xs)
  where
    by : (b : Bool) → cond b (Some x.1) (reply_in t xs) ≡ None → (reply_in t xs ≡ None → without t xs ≡ xs)
        → cond b xs (x ∷ without t xs) ≡ x ∷ xs
    by true none later = absurd (none-some x.1 (sym none))
    by false none later = ap (λ ys. x ∷ ys) (later none)

pub none_taken : (ticket : ℕ) (core : Logged) → reply_in ticket core.session.ready ≡ None → taken_out ticket core ≡ core
none_taken ticket core none =
    ap (λ ready. record core { session = record core.session { ready = ready } })
    (none_without ticket core.session.ready none)

-- a call by how far it is
pub moves_settled : (stage : Stage) (terms : Terms) (now numbers : ℕ) (asked : Asked) (old : Logged)
    (r : Result (Unit {0}) NoMemory) (numbers' : ℕ) (asked' : Asked) (new : Logged)
    → phase_of stage ≡ phases.Settled → IsOk r → asked' ≡ asked → numbers' ≡ numbers → new ≡ old
    → MovesFrom stage terms now numbers asked old r numbers' asked' new
moves_settled (stages.Settled outcome) terms now numbers asked old r numbers' asked' new is ok stay same still =
    (ok, stay, same, still)
moves_settled stages.Resting terms now numbers asked old r numbers' asked' new is ok stay same still = absurd
    (let no : ⊥ = cc in no)
moves_settled (stages.Live attempt) terms now numbers asked old r numbers' asked' new is ok stay same still = absurd
    (let no : ⊥ = cc in no)

pub moves_resting : (stage : Stage) (terms : Terms) (now numbers : ℕ) (asked : Asked) (old : Logged)
    (r : Result (Unit {0}) NoMemory) (numbers' : ℕ) (asked' : Asked) (new : Logged)
    → phase_of stage ≡ phases.Resting → Tries terms now numbers asked old r numbers' asked' new
    → MovesFrom stage terms now numbers asked old r numbers' asked' new
moves_resting stages.Resting terms now numbers asked old r numbers' asked' new is tries = tries
moves_resting (stages.Settled outcome) terms now numbers asked old r numbers' asked' new is tries = absurd
    (let no : ⊥ = cc in no)
moves_resting (stages.Live attempt) terms now numbers asked old r numbers' asked' new is tries = absurd
    (let no : ⊥ = cc in no)

pub moves_live : (stage : Stage) (attempt : Attempt) (terms : Terms) (now numbers : ℕ) (asked : Asked) (old : Logged)
    (r : Result (Unit {0}) NoMemory) (numbers' : ℕ) (asked' : Asked) (new : Logged)
    → phase_of stage ≡ phases.Live attempt → Waits terms now attempt numbers asked old r numbers' asked' new
    → MovesFrom stage terms now numbers asked old r numbers' asked' new
moves_live (stages.Live here) attempt terms now numbers asked old r numbers' asked' new is held =
    let same : attempt ≡ here = cc in
    subst (λ a. Waits terms now a numbers asked old r numbers' asked' new) same held
moves_live stages.Resting attempt terms now numbers asked old r numbers' asked' new is held = absurd
    (let no : ⊥ = cc in no)
moves_live (stages.Settled outcome) attempt terms now numbers asked old r numbers' asked' new is held = absurd
    (let no : ⊥ = cc in no)

-- ---- a deadline

pub deadline_went_on : (old new : Logged) (ticket : ℕ) (r : Result StepReply StepError) → is_wanting r ≡ false
    → Steps old (turns.Deadline ticket) r new → PlaysDeadline ticket old new
deadline_went_on old new ticket (Ok reply) went steps = inl (steps.0, refl, steps.2)
deadline_went_on old new ticket (Err refused.OutOfTurn) went steps = inr steps
deadline_went_on old new ticket (Err (refused.LinkGone current)) went steps = absurd steps
deadline_went_on old new ticket (Err refused.NoMemory) went steps = absurd (false≢true (sym went))

pub deadline_wants : (old new : Logged) (ticket : ℕ) (r : Result StepReply StepError) → is_wanting r ≡ true
    → Steps old (turns.Deadline ticket) r new
    → Steps old (turns.Deadline ticket) (Err refused.NoMemory) new
deadline_wants old new ticket (Err refused.NoMemory) wants steps = steps
deadline_wants old new ticket (Ok reply) wants steps = absurd (false≢true wants)
deadline_wants old new ticket (Err refused.OutOfTurn) wants steps = absurd (false≢true wants)
deadline_wants old new ticket (Err (refused.LinkGone current)) wants steps = absurd (false≢true wants)

pub waits_over : (terms : Terms) (now : ℕ) (attempt : Attempt) (numbers : ℕ) (asked rest : Asked) (old mid : Logged)
    (r : Result (Unit {0}) NoMemory) (numbers' : ℕ) (asked' : Asked) (new : Logged)
    → reply_in attempt.ticket old.session.ready ≡ None → is_over terms.patience attempt now ≡ true
    → Expires attempt.ticket old mid → rest ≡ rested asked
    → Tries terms now numbers rest mid r numbers' asked' new
    → Waits terms now attempt numbers asked old r numbers' asked' new
waits_over terms now attempt numbers asked rest old mid r numbers' asked' new none late expires is tries =
    over none late mid expires (subst (λ a. Tries terms now numbers a mid r numbers' asked' new) is tries)

-- ---- a look for a reply that finds none

pub none_mid : (ticket : ℕ) (old mid : Logged) → reply_in ticket old.session.ready ≡ None
    → mid ≡ taken_out ticket old → reply_in ticket mid.session.ready ≡ None
none_mid ticket old mid none is =
    ap (λ (core : Logged). reply_in ticket core.session.ready) (is ∙ none_taken ticket old none) ∙ none

pub waits_longer : (terms : Terms) (now : ℕ) (attempt : Attempt) (numbers : ℕ) (asked : Asked) (old mid : Logged)
    (r : Result (Unit {0}) NoMemory) (numbers' : ℕ) (asked' : Asked) (new : Logged)
    → reply_in attempt.ticket old.session.ready ≡ None → mid ≡ taken_out attempt.ticket old
    → Waits terms now attempt numbers asked mid r numbers' asked' new
    → Waits terms now attempt numbers asked old r numbers' asked' new
waits_longer terms now attempt numbers asked old mid r numbers' asked' new none is held =
    subst (λ core. Waits terms now attempt numbers asked core r numbers' asked' new)
    (is ∙ none_taken attempt.ticket old none) held

-- ---- a poll

pub tells_not : (r : Result (Unit {0}) NoMemory) (x : Outcome) (result : Result Outcome NoMemory)
    → IsErr r → IsErr result → Tells r x result
tells_not (Ok u) x result err told = absurd (false≢true err)
tells_not (Err e) x (Ok o) err told = absurd (false≢true told)
tells_not (Err e) x (Err e') err told = tt

pub tells_so : (r : Result (Unit {0}) NoMemory) (x : Outcome) (result : Result Outcome NoMemory)
    → IsOk r → IfOk result (λ o. o ≡ x) → OnErr result (takes_memory x ≡ true) → Tells r x result
tells_so (Err e) x result ok is wants = absurd (false≢true ok)
tells_so (Ok u) x (Ok o) ok is wants = is
tells_so (Ok u) x (Err e) ok is wants = wants

pub polls_by : (call now : ℕ) (caller : Calling) (terms : Terms) (numbers : ℕ) (calls : List Asked)
    (old mid new : Logged) (asked asked' : Asked) (r : Result (Unit {0}) NoMemory) (result : Result Outcome NoMemory)
    (numbers' : ℕ)
    → calling_of terms numbers calls ≡ caller → mid ≡ caught_up old → asked ≡ slice_index_or calls (call - 1) asked
    → Moves terms now numbers asked mid r numbers' asked' new → Tells r (outcome_in asked'.stage) result
    → Polls call now caller old result (calling_of terms numbers' (slice_set calls (call - 1) asked')) new
polls_by call now caller terms numbers calls old mid new asked asked' r result numbers' view is at moves told =
    subst (λ k. Polls call now k old result (calling_of terms numbers' (slice_set calls (call - 1) asked')) new) view
    (polled asked asked' r by told)
  where
    by : MovesCall call now (calling_of terms numbers calls) old asked r asked'
        (calling_of terms numbers' (slice_set calls (call - 1) asked')) new
    by = record {
      at = at;
      moves = subst (λ core. Moves terms now numbers asked core r numbers' asked' new) is moves;
      terms = refl;
      calls = refl;
    }
