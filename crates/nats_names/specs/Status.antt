-- What a text says as a status code.
use Rattle.std.specs.Prelude.{ℕ, ◌+◌, ◌-◌, ◌*◌, Bool, ◌&&◌, nat_le, List, [], ◌∷◌, Option, Some, None, if◌then◌else◌}

abbrev pub is_digit : ℕ → Bool
is_digit b = nat_le 48 b && nat_le b 57

-- three ASCII digits, the first not 0
abbrev pub spells_status : ℕ → ℕ → ℕ → Bool
spells_status a b c = nat_le 49 a && is_digit a && is_digit b && is_digit c

-- the status code that a text spells
abbrev pub status_of : List ℕ → Option ℕ
status_of (a ∷ b ∷ c ∷ []) =
    if spells_status a b c then Some (100 * (a - 48) + 10 * (b - 48) + (c - 48)) else None
status_of text = None
