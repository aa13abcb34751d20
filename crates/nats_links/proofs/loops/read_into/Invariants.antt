use Rattle.std.proofs.Common.{◌≡◌, ◌<◌, length}
use Rattle.nats_links.specs.Living.{ReadsOn}
use Rattle.nats_links.proofs.loops.read_into.Given as goal

abbrev pub invariant-loop : goal.invariant-loop
invariant-loop g l =
    (goal.iterator-loop g).can_next l.iterator' × (goal.iterator-loop g).is_finite l.iterator'
    × ReadsOn (g.L.LinkRead.read_told l.initial.from) (g.L.LinkRead.read_told l.from) × (0 < length l.buf)
