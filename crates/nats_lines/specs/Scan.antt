-- What is remembered of unread bytes, so that none of them is searched again.
use Rattle.std.specs.Prelude.{◌≡◌, ℕ, zero, suc, ◌+◌, ◌-◌, ◌<◌, ◌≤◌, Bool, true, false, not, ◌&&◌, ◌==◌, List, [], ◌∷◌, ◌++◌, length, take, drop, IsTrue, if◌then◌else◌}
use Rattle.std.specs.Bool.{OnTrue}
use Rattle.nats_outbuf.specs.Buffers.{is_crlf_at}
use Rattle.nats_lines.specs.Operations.{less, Cut, word_of, sight_of_word, sight}

-- at none of so many places at a text's front the end of a line stands, and a byte is behind each
abbrev pub clear_to : ℕ → List ℕ → Bool
clear_to zero bytes = true
clear_to (suc n) [] = false
clear_to (suc n) (a ∷ []) = false
clear_to (suc n) (a ∷ b ∷ more) = not (a == 13 && b == 10) && clear_to n (b ∷ more)

-- how far the end of the first line was looked for: none stands before a place, and one stands there where it was found
abbrev pub Looked : ℕ → Bool → List ℕ → Type 0
Looked place ended bytes =
    (place ≤ length bytes) × IsTrue (clear_to place bytes) × OnTrue ended (IsTrue (is_crlf_at bytes place))

-- the first line ends a byte before an LF, which stands behind a place
abbrev pub EndsBefore : ℕ → ℕ → List ℕ → Type 0
EndsBefore place lf bytes = (place < lf) × IsTrue (clear_to (lf - 1) bytes) × IsTrue (is_crlf_at bytes (lf - 1))

-- how far it was looked for, once so many bytes at the front are gone: what was found is nearer, or nothing is known
abbrev pub Behind : ℕ → ℕ → Bool → ℕ → Bool → Type 0
Behind n place ended new_place new_ended =
    (n ≤ place → (new_place ≡ place - n) × (new_ended ≡ ended)) × (place < n → (new_place ≡ 0) × (new_ended ≡ false))

-- how many bytes were tested: those before the place, and the one there where a line's end was found
abbrev pub tested : ℕ → Bool → ℕ
tested place ended = if ended then place + 1 else place

-- how many of a text's bytes were not tested
abbrev pub untested : ℕ → Bool → List ℕ → ℕ
untested place ended bytes = length bytes - tested place ended

-- the cut of a text at one of its places, where its first line ends
abbrev pub cut_at : List ℕ → ℕ → Cut
cut_at bytes k = record { line = take k bytes; rest = drop (k + 2) bytes }

-- a text is less than an operation, however it goes on, while it has fewer bytes than so many
abbrev pub Needs : List ℕ → ℕ → Type 0
Needs bytes size = (more : List ℕ) → length (bytes ++ more) < size → sight (bytes ++ more) ≡ less

-- a line is less than an operation while fewer than `count` bytes and two more follow it
abbrev pub Awaits : List ℕ → ℕ → Type 0
Awaits line count = (rest : List ℕ) → length rest < count + 2 → sight_of_word (word_of line) line rest ≡ less
