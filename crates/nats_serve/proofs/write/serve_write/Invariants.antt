-- the count did not fall
use Rattle.nats_outside.specs.Counts.{RoseBy}
use Rattle.nats_serve.proofs.write.serve_write.Given as goal

abbrev pub invariant-loop : goal.invariant-loop
invariant-loop g l =
    (goal.iterator-loop g).can_next l.iterator' × (goal.iterator-loop g).is_finite l.iterator'
    × RoseBy 0 (g.L.LinkWrite.write_told l.initial.out).faults (g.L.LinkWrite.write_told l.out).faults
