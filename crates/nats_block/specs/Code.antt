-- What the reader's values say, in the words of the block's rules.
use Rattle.std.specs.Prelude.{◌≡◌, ℕ, true, List, [], ◌∷◌, Option, Some, None, if◌then◌else◌}
use Rattle.std.specs.Str.Lines.{lines}
use Rattle.nats_block.specs.Lines.{goes_on, joined}
use Rattle.nats_block.specs.declared.lines.Line.{Line}

-- the lines of a text that is cut behind its first line, or has none
abbrev pub lines_from : Option Line → List (List ℕ)
lines_from None = []
lines_from (Some line) = line.text.now ∷ lines line.rest.now

-- the lines behind those at the front that go on
abbrev pub past_joined : List (List ℕ) → List (List ℕ)
past_joined [] = []
past_joined (line ∷ lines) = if goes_on line then past_joined lines else line ∷ lines

-- the first of some lines where it goes on, and nothing where it doesn't
abbrev pub JoinedFrom : Option Line → List (List ℕ) → Type 0
JoinedFrom None lines = (joined lines ≡ []) × (past_joined lines ≡ lines)
JoinedFrom (Some line) rest = (rest ≡ line.text.now ∷ lines line.rest.now) × (goes_on line.text.now ≡ true)
