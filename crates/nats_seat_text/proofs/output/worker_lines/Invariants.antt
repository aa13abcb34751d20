-- the lines of the workers so far
use Rattle.std.proofs.Common.{◌≡◌}
use Rattle.std.specs.String.{string_bytes}
use Rattle.nats_seat_text.specs.Report.{worker_lines}
use Rattle.nats_seat_text.proofs.output.worker_lines.Given as goal

abbrev pub invariant-loop-done : goal.invariant-loop-done
invariant-loop-done l = string_bytes l.out ≡ worker_lines l.done l.journal
