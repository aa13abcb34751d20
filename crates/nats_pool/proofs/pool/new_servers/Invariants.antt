use Rattle.std.proofs.Common.{◌≡◌, map}
use Rattle.nats_pool.specs.Servers.{new_server}
use Rattle.nats_pool.proofs.pool.new_servers.Given as goal

abbrev pub invariant-addrs : goal.invariant-addrs
invariant-addrs l = l.servers.items ≡ map new_server l.yielded
