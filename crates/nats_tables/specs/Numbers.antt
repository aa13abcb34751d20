-- Numbered things in a list, from 1: one of them, one changed, and the numbers themselves.
use Rattle.std.specs.Prelude.{ℕ, zero, suc, Bool, true, false, ◌==◌, List, [], ◌∷◌, map, Option, Some, None, slice_get}

-- the items of a list, with the one at a place changed
abbrev pub at_index : {A : Type 0} → ℕ → (A → A) → List A → List A
at_index i f [] = []
at_index zero f (x ∷ xs) = f x ∷ xs
at_index (suc i) f (x ∷ xs) = x ∷ at_index i f xs

-- the same by numbers from 1
abbrev pub at_number : {A : Type 0} → ℕ → (A → A) → List A → List A
at_number zero f xs = xs
at_number (suc i) f xs = at_index i f xs

-- the item of a number
abbrev pub item_of : {A : Type 0} → ℕ → List A → Option A
item_of zero xs = None
item_of (suc i) xs = slice_get xs i

-- the numbers from the first on, as many as that
abbrev pub count_from : ℕ → ℕ → List ℕ
count_from first zero = []
count_from first (suc n) = first ∷ count_from (suc first) n

-- whom something is about: none, all, the one of a number
pub data About : Type 0 where
  nobody everyone : About
  only : ℕ → About

abbrev pub is_about : ℕ → About → Bool
is_about s nobody = false
is_about s everyone = true
is_about s (only k) = s == k

-- whom a name is about that may be left out
abbrev pub named : Option ℕ → About
named None = nobody
named (Some s) = only s

-- a table with those changed that something is about
abbrev pub change : {A : Type 0} → About → (A → A) → List A → List A
change nobody f xs = xs
change everyone f xs = map f xs
change (only k) f xs = at_number k f xs
