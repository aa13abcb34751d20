-- The new seat is joined back, with no number.
use Rattle.std.proofs.Common.{◌∙◌, rules, subst}
use Rattle.nats_seats.specs.Seats.{NoSeat, Stays}
use Rattle.nats_seats.proofs.Leaving.{stays_at}
use Rattle.nats_seats.proofs.seat.Seated.split.Goals as goal

pub returns-in-Err-make_seat-clause-refused : goal.returns-in-Err-make_seat-clause-refused
returns-in-Err-make_seat-clause-refused g c =
    subst (λ k. Stays k (c.join.new.place.table_id, c.join.new.place.me.0) × NoSeat c.join.new.place.me.0.made c.in-Err-make_seat.error) c.self.view_is
    (stays_at c.self.inside.place c.split-place.new.place c.split-place.result c.enter-ticket.new.place c.leave.new.place c.join.new.place _ _ c.enter-ticket.result.1 c.in-Err-make_seat.error
    (c.join.ensures.0.0 ∙ c.split-place.ensures.kept.0.0) c.split-place.ensures.kept.1 c.split-place.ensures.given.1 c.enter-ticket.ensures.place.1 c.leave.ensures.1 c.join.ensures.1
    c.enter-ticket.ensures.seen.0 c.enter-ticket.ensures.seen.1 c.in-Err-make_seat.ensures.refused.1)

pub invariant_of-result : goal.invariant_of-result
invariant_of-result g c = search rules
