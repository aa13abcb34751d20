-- The request of the ticket settles, if it is unsettled.
use Rattle.std.proofs.Common.{length, ap, sym, subst, arith}
use Rattle.nats_tickets.specs.Asking.{AllBelow}
use Rattle.nats_tickets.specs.Kept.{bit, pending}
use Rattle.nats_tickets.proofs.Asks.{below_less, fewer_but}
use Rattle.nats_tickets.proofs.Rooms.{pending_late, bit_or}
use Rattle.nats_tickets.proofs.tickets.Tickets.time_out.Goals as goal

pub push_timed_out-requires : goal.push_timed_out-requires
push_timed_out-requires c =
    let inside = c.self.inside in
    let asked = c.take_ticket-asked in
    let waited = c.time_out_at-waited in
    omega (arith, c.self.invariant.2, ap bit c.is_either-unsettled.ensures, bit_or asked.result waited.result, fewer_but c.args.ticket inside.asking, ap bit asked.ensures.asked, pending_late c.saturating_sub-place.result inside.queued.items, ap bit waited.ensures.asked)

pub invariant_of-self : goal.invariant_of-self
invariant_of-self c =
    let inside = c.self.inside in
    let asked = c.take_ticket-asked in
    let waited = c.time_out_at-waited in
    let pushed = c.push_timed_out.ensures in (
      omega (arith, c.self.invariant.0, waited.ensures.len),
      subst (AllBelow inside.handled) (sym asked.ensures.rest) (below_less inside.handled c.args.ticket inside.asking c.self.invariant.1),
      omega (arith, c.self.invariant.2, pushed.len, pushed.capacity, ap bit c.is_either-unsettled.ensures, bit_or asked.result waited.result, fewer_but c.args.ticket inside.asking, ap bit asked.ensures.asked, ap length asked.ensures.rest, pending_late c.saturating_sub-place.result inside.queued.items, ap bit waited.ensures.asked, ap pending waited.ensures.rest),
    )
