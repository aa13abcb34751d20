-- those so far, and what is left of both
use Rattle.std.proofs.Common.{◌≡◌, ◌++◌, drop}
use Rattle.nats_interests.specs.Index.{merged}
use Rattle.nats_interests.proofs.index.merged.Given as goal

abbrev pub invariant-loop-place : goal.invariant-loop-place
invariant-loop-place l = l.all.items ++ merged (drop l.place-index l.some) l.left ≡ merged l.fn.some l.fn.others
