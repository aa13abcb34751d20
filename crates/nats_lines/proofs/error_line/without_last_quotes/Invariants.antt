-- what is left loses the same quotes
use Rattle.std.proofs.Common.{◌≡◌, length, reverse}
use denote.Text.{Utf8}
use denote.Shadow.{shadow}
use Rattle.nats_lines.specs.Operations.{without_first_quotes}
use Rattle.nats_lines.proofs.error_line.without_last_quotes.Given as goal

abbrev pub invariant-loop-rest : goal.invariant-loop-rest
invariant-loop-rest l = shadow (Utf8 l.left) × (without_first_quotes (reverse l.left) ≡ without_first_quotes (reverse l.fn.text))

abbrev pub decreases-loop-rest : goal.decreases-loop-rest
decreases-loop-rest l = length l.left
