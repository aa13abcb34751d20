-- The text of a message for a peer, by the NATS protocol's `MSG` and `HMSG`.
use Rattle.std.specs.Prelude.{ℕ, ◌+◌, List, [], ◌∷◌, ◌++◌, length, Option, Some, None, codes}
use Rattle.std.specs.Fmt.{decimal}
use Rattle.std.specs.Borrow.{Bor}
use Rattle.std.specs.List.{flat_map}

abbrev pub crlf : List ℕ
crlf = 13 ∷ 10 ∷ []

-- some parts, one after another
abbrev pub joined : List (Bor (List ℕ)) → List ℕ
joined parts = flat_map (λ part. part.now) parts

abbrev pub word_and_space : Option (List ℕ) → List ℕ
word_and_space None = []
word_and_space (Some word) = word ++ codes " "

-- `MSG s sid n` or `MSG s sid r n` and the payload; with a block `HMSG s sid h t` or `HMSG s sid r h t`, the block and
-- the payload
abbrev pub message_text : ℕ → List ℕ → Option (List ℕ) → Option (List ℕ) → List ℕ → List ℕ
message_text sid subject respond None payload =
    codes "MSG " ++ subject ++ codes " " ++ decimal sid ++ codes " " ++ word_and_space respond
    ++ decimal (length payload) ++ crlf ++ payload ++ crlf
message_text sid subject respond (Some block) payload =
    codes "HMSG " ++ subject ++ codes " " ++ decimal sid ++ codes " " ++ word_and_space respond
    ++ decimal (length block) ++ codes " " ++ decimal (length block + length payload) ++ crlf
    ++ block ++ payload ++ crlf

-- the block that says that nobody answers
abbrev pub no_responders : List ℕ
no_responders = codes "NATS/1.0 503" ++ crlf ++ crlf
