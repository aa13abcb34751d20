-- the clients so far, and those that are left
use Rattle.std.proofs.Common.{◌≡◌, ◌≤◌, ◌++◌, ◌-◌, length, drop, map}
use Rattle.nats_mesh.specs.Clients.{came_up}
use Rattle.nats_mesh.proofs.begin.clients_of.Given as goal

abbrev pub invariant-configs : goal.invariant-configs
invariant-configs l =
    (l.k ≤ length l.fn.configs)
    × (l.clients.items ++ map (λ c. came_up c l.fn.told) (drop l.k l.fn.configs) ≡ map (λ c. came_up c l.fn.told) l.fn.configs)

abbrev pub decreases-configs : goal.decreases-configs
decreases-configs l = length l.fn.configs - l.k
