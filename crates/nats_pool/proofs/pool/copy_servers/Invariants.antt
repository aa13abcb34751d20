use Rattle.std.proofs.Common.{◌≡◌, take}
use Rattle.nats_pool.proofs.pool.copy_servers.Given as goal

abbrev pub invariant-servers : goal.invariant-servers
invariant-servers l = l.copies.items ≡ take l.server-index l.fn.servers
