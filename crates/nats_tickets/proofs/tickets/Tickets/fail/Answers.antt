-- No flush awaits bytes any more, and each has its reply.
use Rattle.std.proofs.Common.{[], ◌∙◌, ap}
use Rattle.nats_history.specs.Tickets.{Tickets}
use Rattle.nats_tickets.specs.Kept.{failed}
use Rattle.nats_tickets.proofs.Marks.{failed_kept}
use Rattle.nats_tickets.proofs.tickets.Tickets.fail.Goals as goal

pub invariant_of-self : goal.invariant_of-self
invariant_of-self c = (c.self.invariant.0, c.self.invariant.1, c.fail_all.ensures.room _ c.self.invariant.2)

pub returns : goal.returns
returns c =
    let inside = c.self.inside in
    let t : Tickets = record { given = inside.given; handled = inside.handled; of_request = inside.kinds; queued = inside.queued.items; flushing = []; asking = inside.asking } in
    failed_kept t inside.taken inside.marks.items c.fail_all.new.marks.items inside.ready.items c.fail_all.new.ready.items c.fail_all.ensures.none c.fail_all.ensures.ready
    ∙ ap failed c.self.view_is
