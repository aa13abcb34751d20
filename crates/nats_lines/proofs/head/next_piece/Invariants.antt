-- what is left has the pieces of the text
use Rattle.std.proofs.Common.{◌≡◌, length}
use denote.Text.{Utf8}
use denote.Shadow.{shadow}
use Rattle.nats_lines.specs.Operations.{pieces_of}
use Rattle.nats_lines.proofs.head.next_piece.Given as goal

abbrev pub invariant-loop-at : goal.invariant-loop-at
invariant-loop-at l = shadow (Utf8 l.left) × (pieces_of l.left ≡ pieces_of l.fn.text)

abbrev pub decreases-loop-at : goal.decreases-loop-at
decreases-loop-at l = length l.left
