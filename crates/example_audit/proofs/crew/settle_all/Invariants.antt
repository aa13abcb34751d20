use Rattle.std.proofs.Common.{◌≡◌, ◌+◌, sum_by}
use Rattle.example_audit.proofs.crew.settle_all.Given as goal

abbrev pub invariant-loop-other : goal.invariant-loop-other
invariant-loop-other g l = l.client.parts + sum_by (λ c. c.parts) l.others.items ≡ l.initial.client.parts + sum_by (λ c. c.parts) l.initial.others.items

abbrev pub decreases-loop-other : goal.decreases-loop-other
decreases-loop-other g l = goal.left-loop-other g l
