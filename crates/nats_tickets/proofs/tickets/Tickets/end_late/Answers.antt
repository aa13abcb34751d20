-- The request waits no more, and another may be dropped.
use Rattle.std.proofs.Common.{◌+◌, length, ◌∙◌, ap, sym, subst, arith}
use Rattle.nats_history.specs.Queue.{first}
use Rattle.nats_history.specs.declared.waits.Waits.TheVariants as waits
use Rattle.nats_tickets.specs.Asking.{AllBelow}
use Rattle.nats_tickets.specs.Kept.{Kept, one_if, pending}
use Rattle.nats_tickets.proofs.Asks.{below_up, below_elsewhere, fewer_elsewhere}
use Rattle.nats_tickets.proofs.Rooms.{first_there}
use Rattle.nats_tickets.proofs.tickets.Tickets.end_late.Goals as goal

pub invariant_of-self : goal.invariant_of-self
invariant_of-self c =
    let inside = c.self.inside in
    let subject = c.args.subject.now in
    let ticket = inside.handled + 1 in
    let there = first_there inside.queued.items waits.Late (ap (λ (k : Kept). first k.tickets.queued) c.self.view_is ∙ c.requires) in
    let taken = c.take_subject-displaced.ensures in (
      omega (arith, c.self.invariant.0, c.pass_call.ensures.len, there.0, inside.queued.ok),
      subst (AllBelow ticket) (sym taken.rest) (below_up inside.handled ticket _ (omega arith) (below_elsewhere inside.handled subject inside.asking c.self.invariant.1)),
      omega (arith, c.self.invariant.2, c.push_dropped.ensures.len, c.push_dropped.ensures.capacity, ap length taken.rest, fewer_elsewhere subject inside.asking, ap one_if taken.ticket, there.1, ap pending c.pass_call.ensures.rest),
    )
