-- The links that a dialer in memory got back.
use Rattle.std.specs.Prelude.{ℕ, List, [], ◌∷◌, ◌++◌, Option, Some, None}
use Rattle.std.specs.Global.{Box}
use Rattle.nats_outside.specs.declared.fake_parts.Past.{Past, Past', Held-Past-before, None', Some'}

abbrev mutual
  pub links_through : Past → List (List (List ℕ) × List ℕ)
  links_through (Past' pieces taken before) = links_behind before ++ (pieces.items, taken.items) ∷ []

  pub links_behind : Held-Past-before → List (List (List ℕ) × List ℕ)
  links_behind None' = []
  links_behind (Some' p past) = links_through past

-- in order
abbrev pub links_of : Option (Box Past) → List (List (List ℕ) × List ℕ)
links_of None = []
links_of (Some b) = links_through b.value

-- the bytes that one link took
abbrev pub taken_of : Past → List ℕ
taken_of (Past' pieces taken before) = taken.items

-- those that the last of them took
abbrev pub last_taken_of : Option (Box Past) → Option (List ℕ)
last_taken_of None = None
last_taken_of (Some b) = Some (taken_of b.value)
