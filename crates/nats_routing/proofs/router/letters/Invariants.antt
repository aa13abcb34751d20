-- the letters so far
use Rattle.std.proofs.Common.{◌≡◌, take}
use Rattle.nats_routing.specs.Router.{letters_of}
use Rattle.nats_routing.proofs.router.letters.Given as goal

abbrev pub invariant-loop-target : goal.invariant-loop-target
invariant-loop-target l = l.all.items ≡ letters_of l.fn.m (take l.target-index l.fn.targets)
