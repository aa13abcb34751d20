-- Bytes that came, and bytes that wait to be written.
use Rattle.std.specs.Prelude.{◌≡◌, ℕ, ◌+◌, ◌<◌, ◌≤◌, Bool, nat_eq, List, [], ◌∷◌, length, take, drop, All, codes}
use Rattle.std.specs.List.{concat, starts_with}

-- the end of a line, CR LF, stands at a place
abbrev pub is_crlf_at : List ℕ → ℕ → Bool
is_crlf_at bytes place = starts_with nat_eq (drop place bytes) (codes "\r\n")

-- some bytes as the pieces that hold them: one, or none where there are none
abbrev pub one_piece : List ℕ → List (List ℕ)
one_piece [] = []
one_piece (byte ∷ bytes) = (byte ∷ bytes) ∷ []

-- no piece is empty, and together they have so many bytes
abbrev pub Holds : List (List ℕ) → ℕ → Type 0
Holds pieces len = (len ≡ length (concat pieces)) × All (λ piece. 0 < length piece) pieces

-- the first of some bytes in pieces, none of them empty, so many at most; none where there are no bytes
pub record IsFront (limit : ℕ) (pieces : List (List ℕ)) (bytes : List ℕ) : Type 0 where
  pub joined : concat pieces ≡ take (length (concat pieces)) bytes
  pub most : length pieces ≤ limit
  pub nonempty : All (λ piece. 0 < length piece) pieces
  pub some : 0 < length bytes → 0 < length pieces

-- bytes that are taken in parts leave what is left when they are taken at once
abbrev pub PartsAreTaken : Type 0
PartsAreTaken = (bytes : List ℕ) (first second : ℕ) → drop second (drop first bytes) ≡ drop (first + second) bytes
