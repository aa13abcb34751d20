-- the client and the workers that are left have the parts that all had
use Rattle.std.proofs.Common.{◌≡◌, ◌+◌, length, sum_by}
use Rattle.nats_thread_text.proofs.crew.settle_all.Given as goal

abbrev pub invariant-loop-worker : goal.invariant-loop-worker
invariant-loop-worker g l = l.client.parts + sum_by (λ w. w.client.parts) l.crew.items ≡ l.initial.client.parts + sum_by (λ w. w.client.parts) l.initial.crew.items

abbrev pub decreases-loop-worker : goal.decreases-loop-worker
decreases-loop-worker g l = length l.crew.items
