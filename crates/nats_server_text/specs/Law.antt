-- What is told is what is read.
use Rattle.std.specs.Prelude.{◌≡◌, ℕ, ◌+◌, ◌^◌, ◌<◌, true, false, List, [], ◌∷◌, length, map, Option, Some, None}
use Rattle.std.specs.Str.{is_utf8}
use Rattle.nats_names.specs.Names.{is_publishable, is_token}
use Rattle.nats_commands.specs.Commands.{sent_block}
use Rattle.nats_client_text.specs.Law.{AreHeadersOrNone, IsCounted}
use Rattle.nats_broker_text.specs.Commands.{holds_white}
use Rattle.nats_lines.specs.Operations.{operations, behind}
use Rattle.nats_server_text.specs.Said.{Said, hello, told, unanswered, refused, pong, said_texts, as_read}

-- a text that a line tells as one word: it may be published to, and holds no white space by Unicode
abbrev pub IsWord : List ℕ → Type 0
IsWord text = (is_utf8 text ≡ true) × (is_publishable text ≡ true) × (holds_white text ≡ false)

abbrev pub IsWordOrNone : Option (List ℕ) → Type 0
IsWordOrNone None = Unit {0}
IsWordOrNone (Some text) = IsWord text

-- what can be told: the name of a broker is a token, subjects and replies are words, headers are distinct names with
-- one or more values each, and numbers and lengths are numbers of the protocol
abbrev pub IsTellable : Said → Type 0
IsTellable (hello server_id max_payload) = (is_token server_id ≡ true) × (max_payload < 2 ^ 64)
IsTellable (told sid subject respond headers payload) =
    (sid < 2 ^ 64) × IsWord subject × IsWordOrNone respond × AreHeadersOrNone headers
    × IsCounted (sent_block headers) payload
IsTellable (unanswered sid subject) = (sid < 2 ^ 64) × IsWord subject
IsTellable (refused why) = Unit {0}
IsTellable pong = Unit {0}

abbrev pub AreTellable : List Said → Type 0
AreTellable [] = Unit {0}
AreTellable (said ∷ more) = IsTellable said × AreTellable more

-- the texts are read as exactly what was told, and nothing is left of them
abbrev pub ReadBack : Type 0
ReadBack = (all : List Said) → AreTellable all
    → (operations (said_texts all) ≡ map as_read all) × (behind (length all) (said_texts all) ≡ [])
