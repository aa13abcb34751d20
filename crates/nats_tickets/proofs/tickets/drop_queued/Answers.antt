-- One ticket after another.
use Rattle.std.proofs.Common.{◌+◌, arith}
use Rattle.nats_tickets.proofs.Marks.{next_queued, pending_drop}
use Rattle.nats_tickets.proofs.tickets.drop_queued.Goals as goal

pub queued-preserved : goal.queued-preserved
queued-preserved c =
    let popped = c.in-Some.ensures in
    let more = pending_drop c.queued.queued.items c.pop_front.new.self.items c.in-Some.waits popped.items in
    record {
      ready = next_queued c.queued.ticket (c.queued.ticket + 1) c.in-Some.waits c.queued.queued.items c.pop_front.new.self.items c.queued.ready.items c.drop_next.new.ready.items _ (omega arith) popped.items c.drop_next.ensures.ready c.queued.invariant.ready;
      room = λ others room. omega (arith, c.queued.invariant.room others room, c.drop_next.ensures.len, c.drop_next.ensures.capacity, more);
      fits = omega (arith, c.queued.invariant.fits, c.drop_next.ensures.len, c.drop_next.ensures.capacity, more);
      numbers = omega (arith, c.queued.invariant.numbers, popped.cases);
    }

pub returns-clause-room : goal.returns-clause-room
returns-clause-room c = λ others room. omega (arith, c.queued.invariant.room others room)
