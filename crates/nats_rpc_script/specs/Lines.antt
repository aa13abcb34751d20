-- The lines of a script of calls. Those that ask and poll have the forms of lines that publish and limit, so the whole
-- is read as a script of those, and beside it stands what each line asks for.
use Rattle.std.specs.Prelude.{ℕ, Bool, ◌||◌, ◌==◌, List, [], ◌∷◌, ◌++◌, map, Option, Some, None, codes, if◌then◌else◌}
use Rattle.std.specs.List.{flat_map}
use Rattle.std.specs.Str.{bytes_eq}
use Rattle.nats_spelling.specs.Lines.{lf}
use Rattle.nats_spelling.specs.Cut.{lines_of}
use Rattle.nats_rpc_script.specs.declared.lines.Kind.{Kind}
use Rattle.nats_rpc_script.specs.declared.lines.Kind.TheVariants as kinds

-- what stands before the first byte of a value, and what stands behind it where one comes
abbrev pub before : ℕ → List ℕ → List ℕ
before byte [] = []
before byte (x ∷ xs) = if x == byte then [] else x ∷ before byte xs

abbrev pub behind : ℕ → List ℕ → Option (List ℕ)
behind byte [] = None
behind byte (x ∷ xs) = if x == byte then Some xs else behind byte xs

-- the lines of requests and deadlines are the caller's own, and none of a script's
abbrev pub is_callers_own : List ℕ → Bool
is_callers_own word =
    bytes_eq word (codes "request") || bytes_eq word (codes "hrequest") || bytes_eq word (codes "deadline")

abbrev pub kind_of_word : List ℕ → Kind
kind_of_word word =
    if bytes_eq word (codes "ask") then kinds.Ask
    else (if bytes_eq word (codes "poll") then kinds.Poll else kinds.Turn)

abbrev pub kind_by : List ℕ → Option (List ℕ) → Kind
kind_by word None = kinds.Turn
kind_by word (Some fields) = kind_of_word word

-- what a line asks for: a call, a poll, or a turn of the core
abbrev pub kind_of : List ℕ → Kind
kind_of line = kind_by (before 32 line) (behind 32 line)

-- what stands behind a line's first space
abbrev pub or_nothing : Option (List ℕ) → List ℕ
or_nothing None = []
or_nothing (Some text) = text

abbrev pub fields_in : List ℕ → List ℕ
fields_in line = or_nothing (behind 32 line)

abbrev pub payload_of : Option (List ℕ) → List ℕ
payload_of None = []
payload_of (Some payload) = codes " ~ " ++ payload

-- a line as a script of turns has it: `ask S B` is `pub S ~ B`, `poll c NOW` is `limit c NOW`, and a line of a request
-- or a deadline is left empty, which cannot be read
abbrev pub turned_as : Kind → List ℕ → List ℕ
turned_as kinds.Ask line = codes "pub " ++ before 32 (fields_in line) ++ payload_of (behind 32 (fields_in line))
turned_as kinds.Poll line = codes "limit " ++ fields_in line
turned_as kinds.Turn line = if is_callers_own (before 32 line) then [] else line

abbrev pub turned : List ℕ → List ℕ
turned line = turned_as (kind_of line) line ++ lf

-- ---- the whole

abbrev pub text_by : List (List ℕ) → List ℕ
text_by [] = []
text_by (settings ∷ lines) = settings ++ lf ++ flat_map turned lines

abbrev pub kinds_by : List (List ℕ) → List Kind
kinds_by [] = []
kinds_by (settings ∷ lines) = map kind_of lines

-- the script of turns, and what each of its lines behind the settings asks for
abbrev pub text_of : List ℕ → List ℕ
text_of bytes = text_by (lines_of bytes)

abbrev pub kinds_of : List ℕ → List Kind
kinds_of bytes = kinds_by (lines_of bytes)
