-- The text of a header map on the wire.
use Rattle.std.specs.Prelude.{ℕ, List, [], ◌∷◌, ◌++◌, codes}
use Rattle.std.specs.List.{flat_map}
use Rattle.nats_header.specs.Headers.{Field, Headers}

-- the end of each line
abbrev pub crlf : List ℕ
crlf = 13 ∷ 10 ∷ []

-- `name: value` and the end of the line
abbrev pub value_line : List ℕ → List ℕ → List ℕ
value_line name value = name ++ codes ": " ++ value ++ crlf

-- a line for each value of the name
abbrev pub field_lines : Field → List ℕ
field_lines field = flat_map (value_line field.0) field.1

abbrev pub lines_of : Headers → List ℕ
lines_of headers = flat_map field_lines headers

-- the version's line, a line for each value, and an empty line
abbrev pub block_text : Headers → List ℕ
block_text headers = codes "NATS/1.0" ++ crlf ++ lines_of headers ++ crlf
