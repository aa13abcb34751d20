-- The first line of a header block: the version, and then a status and a description.
use Rattle.std.specs.Prelude.{ℕ, nat_eq, List, drop, Option, Some, None, option_map, if◌then◌else◌, codes}
use Rattle.std.specs.List.{starts_with}
use Rattle.std.specs.Str.{trim}
use Rattle.nats_names.specs.Status.{status_of}
use Rattle.nats_block.specs.Lines.{cut_at, some_text}
use Rattle.nats_block.specs.declared.head.Head.{Head}

-- a text is a status code or empty; the other may be anything
abbrev pub head_with : Option (List ℕ) → Option (List ℕ) → Option Head
head_with None description = Some (record { status = None; description = description })
head_with (Some text) description =
    option_map (λ status. record { status = Some status; description = description }) (status_of text)

-- a text around its first space: the status before it and the description behind it, each without white space at
-- its ends
abbrev pub head_of_parts : List ℕ → Option (List ℕ × List ℕ) → Option Head
head_of_parts text None = head_with (some_text text) None
head_of_parts text (Some parts) = head_with (some_text (trim parts.0)) (some_text (trim parts.1))

abbrev pub head_of_text : List ℕ → Option Head
head_of_text text = head_of_parts text (cut_at 32 text)

-- the line begins with the version, and the rest of it counts without the white space at its ends
abbrev pub head_of : List ℕ → Option Head
head_of line =
    if starts_with nat_eq line (codes "NATS/1.0") then head_of_text (trim (drop 8 line)) else None
