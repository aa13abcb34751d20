-- it is a seat of the same session
use Rattle.std.proofs.Common.{◌≡◌}
use Rattle.nats_seats_rows.proofs.meets.publish_and_look.Given as goal

abbrev pub invariant-looks : goal.invariant-looks
invariant-looks g l = l.seat.0 ≡ l.fn.seat.0
