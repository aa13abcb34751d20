-- How many PINGs are of ticks, after one more came or the youngest left.
use Rattle.std.proofs.Common.{◌≡◌, ℕ, ◌+◌, ◌<◌, List, [], ◌∷◌, ◌++◌, length, Option, Some, None, refl, sym, ◌∙◌, ap, arith}
use Rattle.std.proofs.lemmas.Option.{none-some, same_Some}
use Rattle.nats_history.specs.declared.ping.Ping.{Ping}
use Rattle.nats_history.specs.History.{tick_of, ticks}

pub ticks_more : (xs : List Ping) (y : Ping) → ticks (xs ++ y ∷ []) ≡ ticks xs + tick_of y
ticks_more [] y = omega arith
ticks_more (x ∷ xs) y = omega (arith, ticks_more xs y)

-- a list that has a youngest item has others before it
by_last : {P : Type 0} (xs : List Ping) → 0 < length xs → ((ys : List Ping) (y : Ping) → xs ≡ ys ++ y ∷ [] → P) → P
by_last [] some k = absurd (omega arith)
by_last (x ∷ []) some k = k [] x refl
by_last (x ∷ y ∷ ys) some k =
    by_last (y ∷ ys) (omega arith) (λ zs z e. k (x ∷ zs) z (ap (λ ws. x ∷ ws) e))

-- the youngest of some PINGs leaves
abbrev pub Pops : List Ping → List Ping → Option Ping → Type 0
Pops xs new r = (ys : List Ping) (y : Ping) → xs ≡ ys ++ y ∷ [] → (new ≡ ys) × (r ≡ Some y)

pub popped : (xs new : List Ping) (r : Option Ping) (ping : Ping) (n : ℕ) → 0 < length xs → Pops xs new r → r ≡ Some ping → n ≡ tick_of ping → ticks xs ≡ ticks new + n
popped xs new r ping n some pops is e =
    by_last xs some (λ ys y at.
    let left = pops ys y at in
    let all : ticks xs ≡ ticks ys + tick_of y = ap ticks at ∙ ticks_more ys y in
    let rest : ticks new ≡ ticks ys = ap ticks left.0 in
    let one : tick_of y ≡ tick_of ping = ap tick_of (same_Some y ping (sym left.1 ∙ is)) in
    omega (arith, all, rest, one, e))

pub popped_some : (xs new : List Ping) (r : Option Ping) → 0 < length xs → Pops xs new r → r ≡ None → ⊥
popped_some xs new r some pops is = by_last xs some (λ ys y at. none-some y (sym is ∙ (pops ys y at).1))
