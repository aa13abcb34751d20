use Rattle.std.proofs.Common.{◌≡◌, map, take}
use Rattle.nats_pool.specs.Rounds.{plan_of}
use Rattle.nats_pool.proofs.choose.plans_for.Given as goal

abbrev pub invariant-servers : goal.invariant-servers
invariant-servers l = l.plans.items ≡ map plan_of (take l.server-index l.fn.servers)
