use Rattle.std.proofs.Common.{◌≡◌}
use Rattle.nats_outside.specs.Counts.{Rose}
use Rattle.nats_hub.proofs.hub.Hub.await_message.Given as goal

abbrev pub invariant-loop : goal.invariant-loop
invariant-loop g l =
    (goal.iterator-loop g).can_next l.iterator' × (goal.iterator-loop g).is_finite l.iterator'
    × ((g.C.Clock.clock_told l.clock).start ≡ l.start)
    × Rose (g.C.Clock.clock_told l.fn.clock).starts (g.C.Clock.clock_told l.clock).starts
