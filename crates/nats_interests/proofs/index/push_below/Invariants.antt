-- those so far, and what is left
use Rattle.std.proofs.Common.{◌≡◌, ◌≤◌, ◌-◌, ◌++◌, length, drop}
use Rattle.nats_interests.specs.Index.{below, above}
use Rattle.nats_interests.proofs.index.push_below.Given as goal

abbrev pub invariant-below : goal.invariant-below
invariant-below l = (l.j ≤ length l.others)
    × (l.all.items ++ below l.place (drop l.j l.others) ≡ l.fn.all.items ++ below l.fn.place l.fn.others)
    × (above l.place (drop l.j l.others) ≡ above l.fn.place l.fn.others)

abbrev pub decreases-below : goal.decreases-below
decreases-below l = length l.others - l.j
