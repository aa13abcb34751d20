-- One item of a list is changed, and another is looked at.
use Rattle.std.proofs.Common.{◌≡◌, ℕ, zero, suc, List, [], ◌∷◌, Option, Some, None, refl, ap, sym, ◌∙◌}
use Rattle.std.specs.Prelude.{slice_get, option_map}
use Rattle.nats_outboxes.specs.Outboxes.{item_of, at_index, at_number}

index_at : {A : Type 0} (f : A → A) (xs : List A) (i : ℕ) → slice_get (at_index i f xs) i ≡ option_map f (slice_get xs i)
index_at f [] i = refl
index_at f (x ∷ xs) zero = refl
index_at f (x ∷ xs) (suc i) = index_at f xs i

index_other : {A : Type 0} (f : A → A) (xs : List A) (i j : ℕ) → (i ≡ j → ⊥) → slice_get (at_index i f xs) j ≡ slice_get xs j
index_other f [] i j other = refl
index_other f (x ∷ xs) zero zero other = absurd (other refl)
index_other f (x ∷ xs) zero (suc j) other = refl
index_other f (x ∷ xs) (suc i) zero other = refl
index_other f (x ∷ xs) (suc i) (suc j) other = index_other f xs i j (λ same. other (ap suc same))

-- the item of a number that was changed
pub item_at : {A : Type 0} (p : ℕ) (f : A → A) (xs : List A) → item_of p (at_number p f xs) ≡ option_map f (item_of p xs)
item_at zero f xs = refl
item_at (suc i) f xs = index_at f xs i

-- another number's item
pub item_other : {A : Type 0} (p q : ℕ) (f : A → A) (xs : List A) → (p ≡ q → ⊥) → item_of q (at_number p f xs) ≡ item_of q xs
item_other zero q f xs other = refl
item_other (suc i) zero f xs other = refl
item_other (suc i) (suc j) f xs other = index_other f xs i j (λ same. other (ap suc same))

index_same : {A : Type 0} (f : A → A) → ((x : A) → f x ≡ x) → (xs : List A) (i : ℕ) → at_index i f xs ≡ xs
index_same f is [] i = refl
index_same f is (x ∷ xs) zero = ap (λ y. y ∷ xs) (is x)
index_same f is (x ∷ xs) (suc i) = ap (λ ys. x ∷ ys) (index_same f is xs i)

-- a change of nothing
pub number_same : {A : Type 0} (f : A → A) → ((x : A) → f x ≡ x) → (p : ℕ) (xs : List A) → at_number p f xs ≡ xs
number_same f is zero xs = refl
number_same f is (suc i) xs = index_same f is xs i
