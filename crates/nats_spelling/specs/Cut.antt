-- How a text is cut into lines and fields.
use Rattle.std.specs.Prelude.{◌≡◌, ℕ, ◌<◌, ◌==◌, List, [], ◌∷◌, length, Option, Some, None}
use Rattle.std.specs.Option.{option_map}
use Rattle.std.specs.List.{slice_split}
use Rattle.nats_spelling.specs.Spelling.{letters}

-- what stands between the bytes of one value, empty parts too
abbrev pub parts_at : ℕ → List ℕ → List (List ℕ)
parts_at byte text = slice_split (λ b. b == byte) text

-- what follows the last line feed is a line only where it is not empty
abbrev pub without_empty_last : List (List ℕ) → List (List ℕ)
without_empty_last [] = []
without_empty_last ([] ∷ []) = []
without_empty_last ((b ∷ bytes) ∷ []) = (b ∷ bytes) ∷ []
without_empty_last (line ∷ next ∷ more) = line ∷ without_empty_last (next ∷ more)

-- what stands between line feeds
abbrev pub lines_of : List ℕ → List (List ℕ)
lines_of bytes = without_empty_last (parts_at 10 bytes)

-- what stands between spaces, of which one parts two fields
abbrev pub fields_of : List ℕ → List (List ℕ)
fields_of line = parts_at 32 line

-- the field, where there is just one
abbrev pub only : List (List ℕ) → Option (List ℕ)
only (field ∷ []) = Some field
only fields = None

-- ---- what a cut leaves

-- the parts that are left behind a cut, none where no cut was made
abbrev pub parts_behind : ℕ → Option (List ℕ) → List (List ℕ)
parts_behind byte None = []
parts_behind byte (Some rest) = parts_at byte rest

-- a text's first line, and the text of its other lines
pub record IsFirstLine (text line rest : List ℕ) : Type 0 where
  pub lines : lines_of text ≡ line ∷ lines_of rest
  pub shorter : length rest < length text

-- the byte that the front of a field spells, and what is left behind it
pub record IsLetter (field : List ℕ) (b : ℕ) (more : List ℕ) : Type 0 where
  pub letters : letters field ≡ option_map (λ bytes. b ∷ bytes) (letters more)
  pub shorter : length more < length field
