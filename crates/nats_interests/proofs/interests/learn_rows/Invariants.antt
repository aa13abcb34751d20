-- what is remembered is so
use Rattle.std.proofs.Common.{◌≡◌, ◌-◌, map, length}
use Rattle.nats_interests.specs.Index.{pattern_of, Remembers}
use Rattle.nats_interests.proofs.interests.learn_rows.Given as goal

abbrev pub invariant-rows : goal.invariant-rows
invariant-rows l = (l.k ≡ l.index.seen) × Remembers (map pattern_of l.fn.rows) l.index

abbrev pub decreases-rows : goal.decreases-rows
decreases-rows l = length l.rows - l.k
