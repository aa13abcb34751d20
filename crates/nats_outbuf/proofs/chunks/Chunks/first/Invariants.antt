-- the pieces so far are copied
use Rattle.std.proofs.Common.{◌≡◌, take}
use Rattle.nats_outbuf.proofs.chunks.Chunks.first.Given as goal

abbrev pub invariant-loop-i : goal.invariant-loop-i
invariant-loop-i l = l.pieces.items ≡ take l.i l.self-inside.pieces.items
