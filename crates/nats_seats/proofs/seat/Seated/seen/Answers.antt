-- What was seen is all that the desk has.
use Rattle.std.proofs.Common.{rules}
use Rattle.nats_seats.proofs.seat.Seated.seen.Goals as goal

pub returns-clause-sees : goal.returns-clause-sees
returns-clause-sees g c = search rules
