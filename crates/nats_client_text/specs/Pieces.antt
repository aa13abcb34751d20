-- The line of a client's command: what stands between its spaces.
use Rattle.std.specs.Prelude.{ℕ, ◌^◌, Bool, false, ◌&&◌, ◌||◌, ◌==◌, nat_le, nat_lt, List, [], ◌∷◌, length, Option, Some, None, if◌then◌else◌, codes}
use Rattle.std.specs.List.{slice_split}
use Rattle.std.specs.Str.{all_ascii_digits, bytes_eq}
use Rattle.std.specs.Str.Parse.{digits_value}
use Rattle.nats_client_text.specs.declared.pieces.Word.{Word}
use Rattle.nats_client_text.specs.declared.pieces.Word.TheVariants as word

-- what stands between single spaces
abbrev pub pieces_of : List ℕ → List (List ℕ)
pieces_of line = slice_split (λ b. b == 32) line

-- a text that begins with one of the digits 1 to 9, or is 0
abbrev pub begins_number : List ℕ → Bool
begins_number [] = false
begins_number (digit ∷ digits) = nat_le 49 digit && nat_le digit 57 || digit == 48 && length digits == 0

-- a number: decimal digits without leading zeros, below 2^64
abbrev pub plain_number : List ℕ → Option ℕ
plain_number text =
    if begins_number text && all_ascii_digits text && nat_lt (digits_value 10 text) (2 ^ 64)
    then Some (digits_value 10 text) else None

-- the word that a command begins with; case counts
abbrev pub word_of : List ℕ → Word
word_of text =
    if bytes_eq text (codes "PING") then word.Ping else
    (if bytes_eq text (codes "PONG") then word.Pong else
    (if bytes_eq text (codes "UNSUB") then word.Unsubscribe else
    (if bytes_eq text (codes "SUB") then word.Subscribe else
    (if bytes_eq text (codes "PUB") then word.Publish else
    (if bytes_eq text (codes "HPUB") then word.HeaderPublish else word.Other)))))
