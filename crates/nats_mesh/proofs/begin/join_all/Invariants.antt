-- the peers that are left to join lead to the same
use Rattle.std.proofs.Common.{◌≡◌, ◌≤◌, ◌-◌, length, drop, map}
use Rattle.nats_broker.specs.Playing.{played}
use Rattle.nats_moves.specs.Mesh.{join_of}
use Rattle.nats_mesh.proofs.begin.join_all.Given as goal

abbrev pub invariant-peers : goal.invariant-peers
invariant-peers l = record {
  within : l.k ≤ length l.fn.configs;
  fed : l.broker.fed ≡ 0;
  many : length l.broker.peers ≡ l.k;
  rest : played (map join_of (drop l.k l.fn.configs)) l.broker ≡ played (map join_of l.fn.configs) l.fn.broker;
}

abbrev pub decreases-peers : goal.decreases-peers
decreases-peers l = length l.fn.configs - l.k
