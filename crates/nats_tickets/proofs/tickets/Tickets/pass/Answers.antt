-- Each unsettled ticket keeps its room.
use Rattle.std.proofs.Common.{[], ◌∙◌, ap}
use Rattle.nats_history.specs.Tickets.{Tickets}
use Rattle.nats_tickets.specs.Kept.{passed}
use Rattle.nats_tickets.proofs.Marks.{passed_kept}
use Rattle.nats_tickets.proofs.tickets.Tickets.pass.Goals as goal

pub invariant_of-self : goal.invariant_of-self
invariant_of-self c =
    (c.self.invariant.0, c.self.invariant.1, c.settle_reached-self-inside.ensures.room _ c.self.invariant.2)

pub returns : goal.returns
returns c =
    let inside = c.self.inside in
    let t : Tickets = record { given = inside.given; handled = inside.handled; of_request = inside.kinds; queued = inside.queued.items; flushing = []; asking = inside.asking } in
    let settled = c.settle_reached-self-inside in
    passed_kept t inside.taken c.args.n settled.result inside.marks.items settled.new.marks.items inside.ready.items settled.new.ready.items settled.ensures.left settled.ensures.ready
    ∙ ap (passed c.args.n) c.self.view_is
