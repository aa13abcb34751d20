-- One more peer joins a broker where nothing is due.
use Rattle.std.proofs.Common.{arith}
use Rattle.nats_mesh.proofs.Beginning.{joins_on, more_peers, fed_stays}
use Rattle.nats_mesh.proofs.begin.join_all.Goals as goal

pub peers-preserved : goal.peers-preserved
peers-preserved c = record {
  within = omega (arith, c.peers-test.true);
  fed = fed_stays c.peers.broker c.join.new.self c.in_ok-join.ensures.ok c.peers.invariant.fed;
  many = more_peers c.peers.broker c.join.new.self c.peers.k c.in_ok-join.ensures.ok c.peers.invariant.many;
  rest = joins_on c.args.configs.now c.peers.k c.peers.broker c.join.new.self _ (omega (arith, c.peers-test.true)) c.peers.invariant.fed
      c.in_ok-join.ensures.ok c.peers.invariant.rest;
}
