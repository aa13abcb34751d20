-- Rows by their numbers, from 1, in pages of 64 successive numbers: the newest page comes first.
use Rattle.std.specs.Prelude.{◌≡◌, ◌≤◌, ◌<◌, ◌+◌, ◌*◌, ◌/◌, ◌%◌, ◌==◌, ℕ, zero, suc, Bool, List, [], ◌∷◌, length, count_by, is_some, slice_index_or, slice_set, Option, Some, None, if◌then◌else◌}
use Rattle.std.specs.Option.{IfSome}
use Rattle.nats_tables.specs.Rows.{look}

-- the row in a slot of a page, where there is such a page
abbrev pub slot_in : {A : Type 0} → ℕ → Option (List (Option A)) → Option A
slot_in slot None = None
slot_in slot (Some slots) = slice_index_or slots slot None

-- the row of a number
abbrev pub row_of : {A : Type 0} → List (ℕ × List (Option A)) → ℕ → Option A
row_of pages zero = None
row_of pages (suc index) = slot_in (index % 64) (look (index / 64) pages)

-- how many numbers the pages go to
abbrev pub given_in : {A : Type 0} → List (ℕ × List (Option A)) → ℕ
given_in [] = 0
given_in (page ∷ pages) = 64 * page.0 + length page.1

-- the pages after this one, a new page
abbrev pub turned : {A : Type 0} → List (Option A) → List (ℕ × List (Option A)) → List (ℕ × List (Option A))
turned slots [] = (0, slots) ∷ []
turned slots (page ∷ pages) = (suc page.0, slots) ∷ page ∷ pages

-- no slot has a row
abbrev pub is_bare : {A : Type 0} → List (Option A) → Bool
is_bare slots = count_by is_some slots == 0

-- what stays of a page: nothing where it has no row
abbrev pub unless_bare : {A : Type 0} → List (Option A) → Option (List (Option A))
unless_bare slots = if is_bare slots then None else Some slots

-- what stays of a page after the row of a slot went
abbrev pub left : {A : Type 0} → ℕ → Option (List (Option A)) → Option (List (Option A))
left slot None = None
left slot (Some slots) = unless_bare (slice_set slots slot None)

-- no page is without a row
abbrev pub NoneBare : {A : Type 0} → List (ℕ × List (Option A)) → Type 0
NoneBare pages = (p : ℕ) → IfSome (look p pages) (λ slots. 0 < count_by is_some slots)

-- the newest page has 64 slots at most, and the older ones, of which none is without a row, come before it
pub record Paged {A : Type 0} (place : ℕ) (newest : List (Option A)) (older : List (ℕ × List (Option A))) : Type 0 where
  pub recent : length newest ≤ 64
  pub before : (p : ℕ) → place ≤ p → look p older ≡ None
  pub held : NoneBare older
