-- what is left to take, and the bytes behind it
use Rattle.std.proofs.Common.{◌≡◌, ◌≤◌, length, drop}
use Rattle.nats_outbuf.proofs.chunks.Chunks.advance.Given as goal

abbrev pub invariant-loop-left : goal.invariant-loop-left
invariant-loop-left l = (l.left ≤ length l.self) × (drop l.left l.self ≡ drop l.fn.n l.fn.self)

abbrev pub decreases-loop-left : goal.decreases-loop-left
decreases-loop-left l = l.left
