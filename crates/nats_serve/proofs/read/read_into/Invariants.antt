-- the counts did not fall, and the buffer has room
use Rattle.std.proofs.Common.{◌<◌, length}
use Rattle.nats_outside.specs.Counts.{RoseBy}
use Rattle.nats_serve.proofs.read.read_into.Given as goal

abbrev pub invariant-loop : goal.invariant-loop
invariant-loop g l =
    (goal.iterator-loop g).can_next l.iterator' × (goal.iterator-loop g).is_finite l.iterator'
    × RoseBy 0 (g.L.LinkRead.read_told l.initial.from).faults (g.L.LinkRead.read_told l.from).faults
    × RoseBy 0 (g.L.LinkRead.read_told l.initial.from).ends (g.L.LinkRead.read_told l.from).ends × (0 < length l.buf)
