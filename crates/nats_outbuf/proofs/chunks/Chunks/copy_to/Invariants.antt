-- what was copied, and what is left to copy of the pieces that follow
use Rattle.std.proofs.Common.{◌≡◌, ◌++◌, take, drop}
use Rattle.std.specs.List.{concat}
use Rattle.nats_outbuf.proofs.chunks.Chunks.copy_to.Given as goal

abbrev pub invariant-loop-i : goal.invariant-loop-i
invariant-loop-i l =
    l.copy.items ++ take l.left (concat (drop l.i l.self-inside.pieces.items)) ≡ l.fn.copy.items ++ take l.fn.n (concat l.self-inside.pieces.items)
