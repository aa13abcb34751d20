-- Lists of the same numbers, place by place, have one sum.
use Rattle.std.proofs.Common.{◌≡◌, ℕ, suc, ◌<◌, List, [], ◌∷◌, length, get_or, sum_by, arith}
use Rattle.std.proofs.lemmas.List.Sums.{sum_by-cons}

pub same_sums : {X : Type 0} (f : X → ℕ) (xs ys : List X) → length ys ≡ length xs
    → ((i : ℕ) (d : X) → i < length xs → f (get_or ys i d) ≡ f (get_or xs i d)) → sum_by f ys ≡ sum_by f xs
same_sums f [] [] same each = omega arith
same_sums f [] (y ∷ ys) same each = absurd (omega (arith, same))
same_sums f (x ∷ xs) [] same each = absurd (omega (arith, same))
same_sums f (x ∷ xs) (y ∷ ys) same each =
    let here : f y ≡ f x = each 0 x (omega arith) in
    let rest : sum_by f ys ≡ sum_by f xs = same_sums f xs ys (omega (arith, same)) (λ i d h. each (suc i) d (omega (arith, h))) in
    omega (arith, here, rest, sum_by-cons f x xs, sum_by-cons f y ys)
