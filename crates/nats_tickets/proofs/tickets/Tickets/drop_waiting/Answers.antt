-- No ticket waits any more, and each has its reply.
use Rattle.std.proofs.Common.{◌+◌, [], length, ◌∙◌, ap, sym, arith, subst}
use Rattle.std.specs.VecDeque.{deque_len}
use Rattle.nats_history.specs.Tickets.{Tickets}
use Rattle.nats_tickets.specs.Asking.{AllBelow}
use Rattle.nats_tickets.specs.Kept.{dropped, pending}
use Rattle.nats_tickets.proofs.Marks.{dropped_kept}
use Rattle.nats_tickets.proofs.tickets.Tickets.drop_waiting.Goals as goal

pub drop_asking-requires : goal.drop_asking-requires
drop_asking-requires c = omega (arith, c.fail_all.ensures.room _ c.self.invariant.2)

pub drop_queued-requires-clause-room : goal.drop_queued-requires-clause-room
drop_queued-requires-clause-room c =
    let pend = pending c.self.inside.queued.items in
    let failed_room = c.fail_all.ensures.room (length c.self.inside.asking + pend) c.self.invariant.2 in
    omega (arith, c.drop_asking.ensures.room pend (omega (arith, failed_room)))

pub invariant_of-self : goal.invariant_of-self
invariant_of-self c =
    let pend = pending c.self.inside.queued.items in
    let marks = deque_len c.fail_all.new.marks in
    let failed_room = c.fail_all.ensures.room (length c.self.inside.asking + pend) c.self.invariant.2 in
    let asked_room = c.drop_asking.ensures.room (marks + pend) (omega (arith, failed_room)) in
    let room = c.drop_queued.ensures.room marks asked_room in (
      omega (arith, c.drop_queued.ensures.len),
      subst (AllBelow c.self.inside.given) (sym c.drop_asking.ensures.none) tt,
      omega (arith, room, ap length c.drop_asking.ensures.none, ap pending c.drop_queued.ensures.none),
    )

pub returns : goal.returns
returns c =
    let inside = c.self.inside in
    let t : Tickets = record { given = inside.given; handled = inside.handled; of_request = inside.kinds; queued = inside.queued.items; flushing = []; asking = inside.asking } in
    dropped_kept t inside.taken inside.marks.items c.fail_all.new.marks.items c.drop_queued.new.queued.items c.drop_asking.new.asking inside.ready.items c.fail_all.new.ready.items c.drop_asking.new.ready.items c.drop_queued.new.ready.items c.fail_all.ensures.none c.drop_queued.ensures.none c.drop_asking.ensures.none c.fail_all.ensures.ready c.drop_asking.ensures.ready c.drop_queued.ensures.ready
    ∙ ap dropped c.self.view_is
