-- the parts so far
use Rattle.std.proofs.Common.{◌≡◌, ◌++◌, take}
use Rattle.nats_routing.specs.Texts.{joined}
use Rattle.nats_routing.proofs.texts.append_all.Given as goal

abbrev pub invariant-loop-part : goal.invariant-loop-part
invariant-loop-part l = l.out.items ≡ l.fn.out.items ++ joined (take l.part-index l.fn.parts)
