-- What code that goes by places makes of a table of numbered things.
use Rattle.std.proofs.Common.{◌≡◌, ℕ, zero, suc, ◌<◌, List, [], ◌∷◌, length, get_or, set, refl, sym, ◌∙◌, ap, arith, ◌⊎◌, inl, inr}
use Rattle.nats_tables.specs.Numbers.{at_index, at_number}
use Rattle.nats_tables.proofs.Numbers.{at_index_past}

-- a write of what f makes of the item at a place
pub set_changed : {A : Type 0} (f : A → A) (xs : List A) (i : ℕ) (x y : A) → i < length xs → x ≡ get_or xs i x → y ≡ f x → set xs i y ≡ at_index i f xs
set_changed f [] i x y less at e = absurd (omega arith)
set_changed f (z ∷ zs) zero x y less at e = ap (λ w. w ∷ zs) (e ∙ ap f at)
set_changed f (z ∷ zs) (suc i) x y less at e = ap (λ ws. z ∷ ws) (set_changed f zs i x y (omega arith) at e)

-- the same by the thing's number
pub set_number : {A : Type 0} (f : A → A) (xs : List A) (k i : ℕ) (x y : A) → k ≡ suc i → i < length xs → x ≡ get_or xs i x → y ≡ f x → set xs i y ≡ at_number k f xs
set_number f xs k i x y e less at changed = set_changed f xs i x y less at changed ∙ ap (λ n. at_number n f xs) (sym e)

pub number_missing : {A : Type 0} (f : A → A) (xs : List A) (k : ℕ) → (k ≡ 0) ⊎ (length xs < k) → at_number k f xs ≡ xs
number_missing f xs k (inl z) = ap (λ n. at_number n f xs) z
number_missing f xs zero (inr past) = refl
number_missing f xs (suc i) (inr past) = at_index_past i f xs (omega arith)

-- the same where the item is known by its place alone
set_there : {A : Type 0} (f : A → A) (xs : List A) (i : ℕ) (d y : A) → i < length xs → y ≡ f (get_or xs i d) → set xs i y ≡ at_index i f xs
set_there f [] i d y less e = absurd (omega arith)
set_there f (z ∷ zs) zero d y less e = ap (λ w. w ∷ zs) e
set_there f (z ∷ zs) (suc i) d y less e = ap (λ ws. z ∷ ws) (set_there f zs i d y (omega arith) e)

pub set_with : {A : Type 0} (f : A → A) (xs : List A) (k i : ℕ) (d y : A) → k ≡ suc i → i < length xs → y ≡ f (get_or xs i d) → set xs i y ≡ at_number k f xs
set_with f xs k i d y e less is = set_there f xs i d y less is ∙ ap (λ n. at_number n f xs) (sym e)
