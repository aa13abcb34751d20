use Rattle.std.proofs.Common.{◌≡◌, take}
use Rattle.nats_pool.proofs.choose.copy_plans.Given as goal

abbrev pub invariant-plans : goal.invariant-plans
invariant-plans l = l.copies.items ≡ take l.planned-index l.fn.plans
