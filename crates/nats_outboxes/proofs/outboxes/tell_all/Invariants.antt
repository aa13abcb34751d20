-- those before are told
use Rattle.std.proofs.Common.{◌≡◌, ◌≤◌, ◌-◌, length, take}
use Rattle.nats_outboxes.specs.Outboxes.{all_said}
use Rattle.nats_outboxes.proofs.outboxes.tell_all.Given as goal

abbrev pub invariant-letters : goal.invariant-letters
invariant-letters l = (l.k ≤ length l.fn.letters) × (l.outs ≡ all_said (take l.k l.fn.letters) l.fn.outs)

abbrev pub decreases-letters : goal.decreases-letters
decreases-letters l = length l.letters - l.k
