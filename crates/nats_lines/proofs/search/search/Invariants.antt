-- so far no line's end was found, and each step was paid for by a byte
use Rattle.std.proofs.Common.{◌≡◌, ◌+◌, ◌-◌, ◌≤◌, length, true}
use Rattle.nats_lines.specs.Scan.{clear_to}
use Rattle.nats_lines.proofs.search.search.Given as goal

abbrev pub invariant-loop-lf : goal.invariant-loop-lf
invariant-loop-lf g l =
    (l.place ≤ length l.fn.buf) × (clear_to l.place l.fn.buf ≡ true)
    × (l.steps + (length l.fn.buf - l.place) ≤ l.fn.steps + (length l.fn.buf - l.fn.from)) × (l.fn.steps ≤ l.steps)

abbrev pub decreases-loop-lf : goal.decreases-loop-lf
decreases-loop-lf g l = length l.fn.buf - l.place
