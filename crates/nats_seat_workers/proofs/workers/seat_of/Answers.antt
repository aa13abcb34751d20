-- The new seat has that number, and no entry.
use Rattle.std.proofs.Common.{suc, arith}
use Rattle.nats_seat_workers.proofs.Working.{fresh}
use Rattle.nats_seat_workers.proofs.workers.seat_of.Goals as goal

pub returns-then-number-worker-clause-seat : goal.returns-then-number-worker-clause-seat
returns-then-number-worker-clause-seat g c =
    fresh c.args.main.now c.in-Ok.seat (suc c.args.worker) c.in-Ok.ensures.made.0 (omega (arith, c.if-number-worker.true, c.number-number.ensures))
