use Rattle.std.proofs.Common.{◌≡◌, ◌+◌, ◌*◌, ◌≤◌, ◌^◌, sum_by}
use Rattle.example_audit.proofs.crew.clones.Given as goal

abbrev pub invariant-loop-i : goal.invariant-loop-i
invariant-loop-i g l = (l.client.parts + sum_by (λ c. c.parts) l.clones.items ≡ 2 ^ 63) × (2 ^ 63 ≤ l.client.parts + l._i * 2 ^ 47)
