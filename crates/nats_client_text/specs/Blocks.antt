-- The header block of a client's command: the version's line, a line for each value, and an empty line.
use Rattle.std.specs.Prelude.{ℕ, ◌&&◌, ◌==◌, List, [], ◌∷◌, length, Option, Some, None, option_map, if◌then◌else◌, codes}
use Rattle.std.specs.List.{onto_first}
use Rattle.std.specs.Str.{is_utf8, bytes_eq}
use Rattle.nats_header.specs.Headers.{Headers}
use Rattle.nats_block.specs.Lines.{cut_at}
use Rattle.nats_block.specs.Fields.{Pair, tested, onto_fields, all_appended}

-- what stands between each CR LF and the next
abbrev pub lines_of : List ℕ → List (List ℕ)
lines_of [] = [] ∷ []
lines_of (a ∷ []) = (a ∷ []) ∷ []
lines_of (a ∷ b ∷ more) = if a == 13 && b == 10 then [] ∷ lines_of more else onto_first a (lines_of (b ∷ more))

-- a name and a value around a colon and one space
abbrev pub field_behind : List ℕ → List ℕ → Option Pair
field_behind name [] = None
field_behind name (space ∷ value) = if space == 32 then tested (name, value) else None

abbrev pub field_cut : Option (List ℕ × List ℕ) → Option Pair
field_cut None = None
field_cut (Some cut) = field_behind cut.0 cut.1

abbrev pub field_of : List ℕ → Option Pair
field_of line = if is_utf8 line then field_cut (cut_at 58 line) else None

-- nothing follows the CR LF of the empty line
abbrev pub ended_by : List (List ℕ) → Option (List Pair)
ended_by ([] ∷ []) = Some []
ended_by lines = None

-- the fields of some lines, up to the empty line, which is the last
abbrev pub fields_of : List (List ℕ) → Option (List Pair)
fields_of [] = None
fields_of (line ∷ lines) = if length line == 0 then ended_by lines else onto_fields (field_of line) (fields_of lines)

-- the values of one name stand in order
abbrev pub headers_of : List (List ℕ) → Option Headers
headers_of lines = option_map (all_appended []) (fields_of lines)

abbrev pub block_of_lines : List (List ℕ) → Option Headers
block_of_lines [] = None
block_of_lines (first ∷ lines) = if bytes_eq first (codes "NATS/1.0") then headers_of lines else None

-- the headers of a block
unfoldable pub block_of : List ℕ → Option Headers
block_of block = block_of_lines (lines_of block)
