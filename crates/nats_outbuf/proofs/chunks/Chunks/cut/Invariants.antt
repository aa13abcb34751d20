-- what is left to cut off, and the bytes before it
use Rattle.std.proofs.Common.{◌≡◌, ◌-◌, ◌≤◌, length, take}
use Rattle.nats_outbuf.proofs.chunks.Chunks.cut.Given as goal

abbrev pub invariant-loop-over : goal.invariant-loop-over
invariant-loop-over l = (l.over ≤ length l.self) × (length l.self - l.over ≡ l.fn.n) × (take l.fn.n l.self ≡ take l.fn.n l.fn.self)

abbrev pub decreases-loop-over : goal.decreases-loop-over
decreases-loop-over l = l.over
