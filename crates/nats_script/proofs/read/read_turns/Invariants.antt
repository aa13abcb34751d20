-- the turns so far, then those of the lines that are left, are all; the next line's number is small
use Rattle.std.proofs.Common.{◌≡◌, ◌+◌, ◌≤◌, length}
use Rattle.nats_spelling.specs.Cut.{lines_of}
use Rattle.nats_script.specs.Script.{turns_from}
use Rattle.nats_script.proofs.Scripts.{onto_read}
use Rattle.nats_script.proofs.read.read_turns.Given as goal

abbrev pub invariant-loop-line : goal.invariant-loop-line
invariant-loop-line l = record {
  so_far : turns_from 2 (lines_of l.lines) ≡ onto_read l.turns (turns_from l.k (lines_of l.rest));
  number : l.k + length l.rest ≤ 2 + length l.lines;
}

abbrev pub decreases-loop-line : goal.decreases-loop-line
decreases-loop-line l = length l.rest
