-- the turns of the entries so far
use Rattle.std.proofs.Common.{◌≡◌}
use Rattle.nats_seat_text.specs.Report.{turns_in}
use Rattle.nats_seat_text.proofs.taken.turns_in.Given as goal

abbrev pub invariant-entries : goal.invariant-entries
invariant-entries l = l.turns.items ≡ turns_in l.yielded
