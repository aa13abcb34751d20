-- the number of the bytes so far
use Rattle.std.proofs.Common.{◌≡◌, take}
use Rattle.nats_interests.specs.Index.{mix_of}
use Rattle.nats_interests.proofs.index.mix_of.Given as goal

abbrev pub invariant-loop-b : goal.invariant-loop-b
invariant-loop-b l = l.n ≡ mix_of (take l.b-index l.fn.text)
