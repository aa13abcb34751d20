-- A flush settles, or awaits bytes.
use Rattle.std.proofs.Common.{◌+◌, ◌∙◌, ap, arith}
use Rattle.nats_history.specs.Queue.{first}
use Rattle.nats_history.specs.declared.waits.Waits.TheVariants as waits
use Rattle.nats_tickets.specs.Kept.{Kept, pending}
use Rattle.nats_tickets.proofs.Asks.{below_up}
use Rattle.nats_tickets.proofs.Rooms.{first_there}
use Rattle.nats_tickets.proofs.tickets.Tickets.begin_flush.Goals as goal

pub await_bytes-requires : goal.await_bytes-requires
await_bytes-requires c =
    let inside = c.self.inside in
    let there = first_there inside.queued.items waits.Flush (ap (λ (k : Kept). first k.tickets.queued) c.self.view_is ∙ c.requires) in
    omega (arith, c.self.invariant.2, there.1)

pub invariant_of-self-2 : goal.invariant_of-self-2
invariant_of-self-2 c =
    let inside = c.self.inside in
    let ticket = inside.handled + 1 in
    let there = first_there inside.queued.items waits.Flush (ap (λ (k : Kept). first k.tickets.queued) c.self.view_is ∙ c.requires) in
    let room = c.in_ok-await_bytes.ensures.room in (
      omega (arith, c.self.invariant.0, c.pass_call.ensures.len, there.0, inside.queued.ok),
      below_up inside.handled ticket inside.asking (omega arith) c.self.invariant.1,
      omega (arith, c.self.invariant.2, room.0, room.1, there.1, ap pending c.pass_call.ensures.rest),
    )
