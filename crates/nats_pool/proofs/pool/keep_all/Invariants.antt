use Rattle.std.proofs.Common.{◌≡◌, map}
use Rattle.nats_pool.specs.Servers.{kept}
use Rattle.nats_pool.proofs.pool.keep_all.Given as goal

abbrev pub invariant-addrs : goal.invariant-addrs
invariant-addrs l = l.all.items ≡ map (kept l.fn.servers) l.yielded
