-- those so far count
use Rattle.std.proofs.Common.{◌≡◌, take}
use Rattle.nats_routing.specs.Router.{counted_all}
use Rattle.nats_routing.proofs.router.count_all.Given as goal

abbrev pub invariant-loop-target : goal.invariant-loop-target
invariant-loop-target l = l.interests ≡ counted_all (take l.target-index l.fn.targets) l.fn.interests
