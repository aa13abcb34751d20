-- it is a seat of the same session
use Rattle.std.proofs.Common.{◌≡◌}
use Rattle.example_seats.proofs.report.Given as goal

abbrev pub invariant-readings : goal.invariant-readings
invariant-readings g l = l.seat.0 ≡ l.fn.seat.0
