-- the client and the workers so far have all parts, and the client has given away few of them
use Rattle.std.proofs.Common.{◌≡◌, ◌+◌, ◌*◌, ◌≤◌, ◌^◌, sum_by}
use Rattle.nats_thread_text.proofs.crew.workers_of.Given as goal

abbrev pub invariant-loop-done : goal.invariant-loop-done
invariant-loop-done g l = (l.client.parts + sum_by (λ w. w.client.parts) l.crew.items ≡ 2 ^ 63) × (2 ^ 63 ≤ l.client.parts + l.done * 2 ^ 47)
