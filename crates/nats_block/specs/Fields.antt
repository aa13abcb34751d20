-- The lines behind the first of a header block: the fields.
use Rattle.std.specs.Prelude.{ℕ, ◌==◌, ◌&&◌, Bool, true, false, List, [], ◌∷◌, ◌++◌, length, fold, Option, Some, None, option_map, if◌then◌else◌}
use Rattle.std.specs.Str.{trim_start, trim_end}
use Rattle.nats_header.specs.Names.{is_header_name, is_header_value}
use Rattle.nats_header.specs.Headers.{Headers, appended}
use Rattle.nats_block.specs.Lines.{cut_at, goes_on, joined}

-- a name and a value
abbrev pub Pair : Type 0
Pair = List ℕ × List ℕ

-- a field whose line is cut at its first colon, with the lines that go on with its value: white space at the
-- value's start counts in the first line alone, and white space at its end behind the last
abbrev pub tested : Pair → Option Pair
tested field = if is_header_name field.0 && is_header_value field.1 then Some field else None

abbrev pub field_with : List ℕ → Option (List ℕ × List ℕ) → Option Pair
field_with more None = None
field_with more (Some cut) = tested (cut.0, trim_end (trim_start cut.1 ++ more))

abbrev pub field_of : List ℕ → List ℕ → Option Pair
field_of line more = field_with more (cut_at 58 line)

abbrev pub onto_fields : Option Pair → Option (List Pair) → Option (List Pair)
onto_fields (Some field) (Some fields) = Some (field ∷ fields)
onto_fields (Some field) None = None
onto_fields None fields = None

-- the fields of some lines, where `is_open` says that a field stands in the line before, or goes on there: an empty
-- line is skipped, a line that goes on belongs to the field before it, and each other line begins a field
abbrev pub fields_from : Bool → List (List ℕ) → Option (List Pair)
fields_from is_open [] = Some []
fields_from is_open (line ∷ lines) =
    if length line == 0 then fields_from false lines else
    (if is_open && goes_on line then fields_from true lines else
    onto_fields (field_of line (joined lines)) (fields_from true lines))

abbrev pub fields_of : List (List ℕ) → Option (List Pair)
fields_of lines = fields_from false lines

abbrev pub with_field : Headers → Pair → Headers
with_field headers field = appended headers field.0 field.1

-- the header map of some fields: the values of one name stand in order
abbrev pub all_appended : Headers → List Pair → Headers
all_appended headers fields = fold with_field headers fields

-- the header map of some lines
abbrev pub headers_of : List (List ℕ) → Option Headers
headers_of lines = option_map (all_appended []) (fields_of lines)
