-- The printed form of a message.
use Rattle.std.specs.Prelude.{ℕ, ◌+◌, List, [], ◌∷◌, ◌++◌, length, Option, Some, None, codes}
use Rattle.std.specs.Fmt.{decimal}
use Rattle.std.specs.List.{flat_map}
use Rattle.nats_header.specs.Headers.{Headers}
use Rattle.nats_message.specs.declared.message.Message.{Message}
use Rattle.nats_spelling.specs.Lines.{lf, space}
use Rattle.nats_spelling.specs.Spelling.{spelled, spelled_or_absent}

-- a number, or `~` where it is absent
abbrev pub number_or_absent : Option ℕ → List ℕ
number_or_absent None = codes "~"
number_or_absent (Some n) = decimal n

-- each value of a name behind the name
abbrev pub header_fields : List ℕ × List (List ℕ) → List ℕ
header_fields (name, values) = flat_map (λ value. space ++ spelled name ++ space ++ spelled value) values

-- the number of values of all names
abbrev pub value_count : Headers → ℕ
value_count [] = 0
value_count ((name, values) ∷ headers) = length values + value_count headers

-- headers: how many values there are, then each behind its name; `~` where there are none
abbrev pub headers_text : Option Headers → List ℕ
headers_text None = codes "~"
headers_text (Some headers) = decimal (value_count headers) ++ flat_map header_fields headers

-- a message's subject, reply and payload
abbrev pub content_text : Message → List ℕ
content_text m = spelled m.subject ++ space ++ spelled_or_absent m.reply ++ space ++ spelled m.payload ++ space

-- its status and description, and its length
abbrev pub answer_text : Message → List ℕ
answer_text m =
    number_or_absent m.status ++ space ++ spelled_or_absent m.description ++ space ++ decimal m.length ++ space

-- a message by seven fields: subject, reply, payload, status, description, length, headers
abbrev pub message_text : Message → List ℕ
message_text m = content_text m ++ answer_text m ++ headers_text m.headers

-- a message as a line of its own
abbrev pub message_line : Message → List ℕ
message_line m = codes "message " ++ message_text m ++ lf
