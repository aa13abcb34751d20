-- those before are still told
use Rattle.std.proofs.Common.{◌≡◌, ◌≤◌, length, take}
use Rattle.nats_outboxes.specs.Outboxes.{all_said}
use Rattle.nats_outboxes.proofs.outboxes.take_back.Given as goal

abbrev pub invariant-letters : goal.invariant-letters
invariant-letters l = (l.k ≤ length l.fn.letters) × ((before : _) → l.fn.outs ≡ all_said (take l.fn.told l.fn.letters) before → l.outs ≡ all_said (take l.k l.fn.letters) before)

abbrev pub decreases-letters : goal.decreases-letters
decreases-letters l = l.k
