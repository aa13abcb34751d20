use Rattle.std.proofs.Common.{◌≡◌}
use Rattle.nats_outside.specs.Counts.{RoseBy}
use Rattle.nats_links.proofs.loops.write_loop.Given as goal

abbrev pub invariant-loop : goal.invariant-loop
invariant-loop g l =
    (goal.iterator-loop g).can_next l.iterator' × (goal.iterator-loop g).is_finite l.iterator'
    × RoseBy 0 (g.L.LinkWrite.write_told l.initial.out).faults (g.L.LinkWrite.write_told l.out).faults
