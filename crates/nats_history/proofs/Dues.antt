-- Laws on due steps: they end, they go on one by one, and then none is left.
use Rattle.std.proofs.Common.{◌≡◌, ℕ, zero, suc, ◌-◌, ◌≤◌, ◌<◌, Bool, true, false, cond, List, [], ◌∷◌, ◌++◌, length, nat_lt, Option, Some, None, refl, ◌∙◌, ap, subst, arith}
use Rattle.std.proofs.lemmas.List.{length-drop}
use Rattle.std.proofs.lemmas.Option.{none-some, same_Some}
use Rattle.nats_lines.specs.Operations.{Operation, Front, got, unfinished, fault, front, sight}
use Rattle.nats_lines.proofs.Fronts.{front_takes, front_fits}
use Rattle.nats_history.specs.declared.call.Call.{Call}
use Rattle.nats_history.specs.declared.transcript.LinkWord.{LinkWord}
use Rattle.nats_history.specs.declared.transcript.LinkWord.TheVariants as word
use Rattle.nats_history.specs.History.{Step, read, handled, link_end}
use Rattle.nats_history.specs.Parts.{Parts}
use Rattle.nats_history.specs.Schedule.{closes, closing, ending, ends_link, read_end, chain, due_call, due_by, due, most_due}
use Rattle.nats_history.specs.After.{after, after_all, due_steps_within, due_steps}

-- ---- each due step brings the end nearer

pub nothing_there : front [] ≡ unfinished
unfolding front sight
nothing_there = refl

-- a fault needs bytes
fault_there : (bytes : List ℕ) (n : ℕ) → front bytes ≡ fault n → 0 < length bytes
fault_there [] n e = cc (nothing_there)
fault_there (b ∷ bytes) n e = omega arith

-- a link's end leaves no bytes
end_leaves : (q : Parts) (end : LinkWord) (b : Bool) → most_due (after_all q (link_end end ∷ closing b)) ≤ length q.calls
end_leaves q end true = omega arith
end_leaves q end false = omega arith

-- and no more than there was
end_falls : (q : Parts) (drained : Bool) (end : Option LinkWord) → most_due (after_all q (ending drained end)) ≤ most_due q
end_falls q drained None = omega arith
end_falls q drained (Some end) =
    let left = end_leaves q end (closes drained end) in
    omega (arith, left)

read_falls : (p : Parts) (operation : Operation) (n : ℕ) → front p.link.wire.unread ≡ got operation n → most_due (after_all p (chain p (read operation))) < most_due p
read_falls p operation n e =
    let some = front_takes p.link.wire.unread operation n e in
    let fits = front_fits p.link.wire.unread operation n e in
    let q = after p (read operation) in
    let first : most_due q < most_due p = rw (e, length-drop) (omega (arith, some, fits)) in
    omega (arith, first, end_falls q p.drain.is_handled (read_end p.link.pings operation))

handled_falls : (p : Parts) (call : Call) (more : List Call) → p.calls ≡ call ∷ more → most_due (after_all p (chain p (handled call))) < most_due p
handled_falls p call more e =
    let q = after p (handled call) in
    let first : most_due q < most_due p = rw e (omega arith) in
    omega (arith, first, end_falls q p.drain.is_handled (ends_link call))

-- the bound after a due step and what follows it
abbrev Falls : Parts → Step → Type 0
Falls p step = most_due (after_all p (chain p step)) < most_due p

pub bound_falls : (p : Parts) (step : Step) → due p ≡ Some step → most_due (after_all p (chain p step)) < most_due p
bound_falls p step e = by_up p.link.is_up refl e
  where
    by_call : (room : Bool) (calls : List Call) → p.calls ≡ calls → due_call room calls ≡ Some step → Falls p step
    by_call true (call ∷ more) is e =
        subst (Falls p) (same_Some (handled call) step e) (handled_falls p call more is)
    by_call true [] is e = absurd (none-some step e)
    by_call false calls is e = absurd (none-some step e)

    by_front : (f : Front) → front p.link.wire.unread ≡ f → due_by f p ≡ Some step → Falls p step
    by_front (got operation n) is e =
        subst (Falls p) (same_Some (read operation) step e) (read_falls p operation n is)
    by_front (fault n) is e =
        let some = fault_there p.link.wire.unread n is in
        let left = end_leaves p word.Fault (closes p.drain.is_handled word.Fault) in
        subst (Falls p) (same_Some (link_end word.Fault) step e) (omega (arith, some, left))
    by_front unfinished is e = by_call (nat_lt (length p.link.wire.waiting) 65535) p.calls refl e

    by_up : (up : Bool) → p.link.is_up ≡ up → cond up (due_by (front p.link.wire.unread) p) None ≡ Some step → Falls p step
    by_up true is e = by_front (front p.link.wire.unread) refl e
    by_up false is e = absurd (none-some step e)

-- ---- as many steps as it takes

enough : (n m : ℕ) (next : Option Step) (p : Parts) → due p ≡ next → most_due p ≤ n → most_due p ≤ m → due_steps_within n next p ≡ due_steps_within m next p
enough n m None p is a b = refl
enough zero zero (Some step) p is a b = refl
enough zero (suc m) (Some step) p is a b =
    let falls = bound_falls p step is in absurd (omega arith)
enough (suc n) zero (Some step) p is a b =
    let falls = bound_falls p step is in absurd (omega arith)
enough (suc n) (suc m) (Some step) p is a b =
    let falls = bound_falls p step is in
    let more = after_all p (chain p step) in
    ap (λ steps. chain p step ++ steps) (enough n m (due more) more refl (omega arith) (omega arith))

pub none_due : (p : Parts) → due p ≡ None → due_steps p ≡ []
none_due p e = ap (λ next. due_steps_within (most_due p) next p) e

pub one_due : (p : Parts) (step : Step) → due p ≡ Some step → due_steps p ≡ chain p step ++ due_steps (after_all p (chain p step))
one_due p step e =
    let falls = bound_falls p step e in
    let some : most_due p ≡ suc (most_due p - 1) = omega arith in
    let more = after_all p (chain p step) in
    ap (λ next. due_steps_within (most_due p) next p) e ∙ (ap (λ n. due_steps_within n (Some step) p) some ∙ ap (λ steps. chain p step ++ steps) (enough (most_due p - 1) (most_due more) (due more) more refl (omega arith) (omega arith)))

-- ---- and then none is due

pub after_append : (xs ys : List Step) (p : Parts) → after_all p (xs ++ ys) ≡ after_all (after_all p xs) ys
after_append [] ys p = refl
after_append (x ∷ xs) ys p = after_append xs ys (after p x)

none_within : (n : ℕ) (next : Option Step) (p : Parts) → due p ≡ next → most_due p ≤ n → due (after_all p (due_steps_within n next p)) ≡ None
none_within n None p is fits = is
none_within zero (Some step) p is fits = let falls = bound_falls p step is in absurd (omega arith)
none_within (suc n) (Some step) p is fits =
    let falls = bound_falls p step is in
    let more = after_all p (chain p step) in
    ap due (after_append (chain p step) (due_steps_within n (due more) more) p) ∙ none_within n (due more) more refl (omega arith)

pub none_left : (p : Parts) → due (after_all p (due_steps p)) ≡ None
none_left p = none_within (most_due p) (due p) p refl (omega arith)
