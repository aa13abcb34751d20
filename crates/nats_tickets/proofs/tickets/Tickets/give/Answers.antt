-- Each unsettled ticket has its room.
use Rattle.std.proofs.Common.{arith, ap}
use Rattle.nats_tickets.specs.Kept.{pending}
use Rattle.nats_tickets.proofs.Marks.{pending_more, pending_most, pending_one}
use Rattle.nats_tickets.proofs.tickets.Tickets.give.Goals as goal

pub invariant_of-self-2 : goal.invariant_of-self-2
invariant_of-self-2 c =
    let pushed = c.push_back_reserved.ensures in
    let queued = c.self.inside.queued.items in (
      omega (arith, c.self.invariant.0, pushed.len, c.in-Some.ensures, c.in_ok-reserve-2.ensures.len),
      c.self.invariant.1,
      omega (arith, ap pending pushed.items, ap pending c.in_ok-reserve-2.ensures.items, pending_more c.reserve-2.new.self.items c.args.waits, pending_one c.args.waits, pending_most queued, c.self.inside.queued.ok, c.in_ok-reserve.ensures.len, c.in_ok-reserve.ensures.capacity, c.in_ok-reserve.ensures.ok, c.in-Some-checked_add.ensures, c.in-Some-checked_add-2.ensures, c.in-Some-checked_add-3.ensures, c.len.ensures, c.len-2.ensures, c.len-3.ensures),
    )
