-- the text so far and the lines that are left and go on are the whole
use Rattle.std.proofs.Common.{◌≡◌, ◌++◌, string_bytes, length}
use denote.Text.{Utf8}
use denote.Shadow.{shadow}
use Rattle.std.specs.Str.Lines.{lines}
use Rattle.nats_block.specs.Lines.{joined}
use Rattle.nats_block.specs.Code.{past_joined}
use Rattle.nats_block.proofs.lines.join.Given as goal

abbrev pub invariant-loop-line : goal.invariant-loop-line
invariant-loop-line l =
    shadow (Utf8 l.rest)
    × (string_bytes l.all ++ joined (lines l.rest) ≡ l.fn.start ++ joined (lines l.fn.text))
    × (past_joined (lines l.rest) ≡ past_joined (lines l.fn.text))

abbrev pub decreases-loop-line : goal.decreases-loop-line
decreases-loop-line l = length (lines l.rest)
