-- The request that waits for the message settles, if there is one.
use Rattle.std.proofs.Common.{length, ap, sym, subst, arith}
use Rattle.nats_tickets.specs.Asking.{AllBelow}
use Rattle.nats_tickets.specs.Kept.{one_if}
use Rattle.nats_tickets.proofs.Asks.{below_elsewhere, fewer_elsewhere}
use Rattle.nats_tickets.proofs.tickets.Tickets.arrive.Goals as goal

pub invariant_of-self : goal.invariant_of-self
invariant_of-self c =
    let inside = c.self.inside in
    let subject = c.args.message.subject in
    let taken = c.take_subject-ticket.ensures in (
      c.self.invariant.0,
      subst (AllBelow inside.handled) (sym taken.rest) (below_elsewhere inside.handled subject inside.asking c.self.invariant.1),
      omega (arith, c.self.invariant.2, c.push_replied.ensures.len, c.push_replied.ensures.capacity, ap length taken.rest, fewer_elsewhere subject inside.asking, ap one_if taken.ticket),
    )
