-- A turn over histories is a turn over parts.
use Rattle.std.proofs.Common.{◌≡◌, ℕ, zero, suc, List, [], ◌∷◌, ◌++◌, Option, Some, None, refl, sym, ◌∙◌, ap}
use Rattle.nats_history.specs.declared.config.Config.{Config}
use Rattle.nats_history.specs.declared.turn.Turn.{Turn}
use Rattle.nats_history.specs.History.{Step, History}
use Rattle.nats_history.specs.Parts.{parts_of}
use Rattle.nats_history.specs.Schedule.{chain, own_steps, due, most_due, put_steps, settled_within, settled, after_turn}
use Rattle.nats_history.specs.After.{after_all, due_steps_within, due_steps}
use Rattle.nats_history.proofs.Refines.{parts_after}
use Rattle.nats_history.proofs.Dues.{none_left}

pub parts_after_all : (c : Config) (h : History) (place : ℕ) (steps : List Step) → parts_of c (put_steps place steps h) ≡ after_all (parts_of c h) steps
parts_after_all c h place [] = refl
parts_after_all c h place (step ∷ steps) =
    parts_after_all c ((place, step) ∷ h) place steps ∙ ap (λ q. after_all q steps) (parts_after c h place step)

pub put_append : (place : ℕ) (xs ys : List Step) (h : History) → put_steps place (xs ++ ys) h ≡ put_steps place ys (put_steps place xs h)
put_append place [] ys h = refl
put_append place (x ∷ xs) ys h = put_append place xs ys ((place, x) ∷ h)

same_within : (c : Config) (place most : ℕ) (next : Option Step) (h : History) → settled_within c place most next h ≡ put_steps place (due_steps_within most next (parts_of c h)) h
same_within c place most None h = refl
same_within c place zero (Some step) h = refl
same_within c place (suc most) (Some step) h =
    let p = parts_of c h in
    let steps = chain p step in
    let more = put_steps place steps h in
    same_within c place most (due (parts_of c more)) more ∙ (ap (λ q. put_steps place (due_steps_within most (due q) q) more) (parts_after_all c h place steps) ∙ sym (put_append place steps (due_steps_within most (due (after_all p steps)) (after_all p steps)) h))

-- settling a history puts the steps that are due at its parts
pub same_settled : (c : Config) (place : ℕ) (h : History) → settled c place h ≡ put_steps place (due_steps (parts_of c h)) h
same_settled c place h = same_within c place (most_due (parts_of c h)) (due (parts_of c h)) h

-- a turn puts its own steps, then those that are due
pub same_turn : (c : Config) (place : ℕ) (turn : Turn) (h : History)
    → after_turn c place turn h ≡ put_steps place (due_steps (after_all (parts_of c h) (own_steps (parts_of c h) turn))) (put_steps place (own_steps (parts_of c h) turn) h)
same_turn c place turn h =
    let own = own_steps (parts_of c h) turn in
    same_settled c place (put_steps place own h) ∙ ap (λ q. put_steps place (due_steps q) (put_steps place own h)) (parts_after_all c h place own)

-- after a turn no step is due
pub none_after_turn : (c : Config) (place : ℕ) (turn : Turn) (h : History) → due (parts_of c (after_turn c place turn h)) ≡ None
none_after_turn c place turn h =
    let p = after_all (parts_of c h) (own_steps (parts_of c h) turn) in
    let own = put_steps place (own_steps (parts_of c h) turn) h in
    ap (λ k. due (parts_of c k)) (same_turn c place turn h) ∙ (ap due (parts_after_all c own place (due_steps p)) ∙ (ap (λ q. due (after_all q (due_steps p))) (parts_after_all c h place (own_steps (parts_of c h) turn)) ∙ none_left p))
