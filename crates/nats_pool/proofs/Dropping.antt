-- What is left of a list after its first items, one item on.
use Rattle.std.proofs.Common.{◌≡◌, ℕ, suc, ◌+◌, ◌<◌, ◌≤◌, List, ◌∷◌, length, get_or, drop, drop-cons, add-one, ap, arith, length-drop}

pub drop-next : {A : Type 0} (xs : List A) (n : ℕ) (p : A) (rest : List A) → drop n xs ≡ p ∷ rest → (drop (n + 1) xs ≡ rest) × (n + 1 ≤ length xs)
drop-next xs n p rest e =
    let h : n < length xs = omega (arith, length-drop n xs, ap length e) in
    let k : drop n xs ≡ get_or xs n p ∷ drop (suc n) xs = drop-cons xs n p h in
    (rw add-one (cc), omega arith)
