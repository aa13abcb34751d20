-- the turns so far, and those that are left
use Rattle.std.proofs.Common.{◌≡◌, ◌≤◌, ◌++◌, ◌-◌, length, drop}
use Rattle.nats_core.specs.Journal.{turns_of}
use Rattle.nats_mesh.proofs.cores.turns_of.Given as goal

abbrev pub invariant-entries : goal.invariant-entries
invariant-entries l =
    (l.k ≤ length l.fn.journal) × (l.turns.items ++ turns_of (drop l.k l.fn.journal) ≡ turns_of l.fn.journal)

abbrev pub decreases-entries : goal.decreases-entries
decreases-entries l = length l.fn.journal - l.k
