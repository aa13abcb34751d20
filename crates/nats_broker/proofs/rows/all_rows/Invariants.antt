-- the rows so far, and those that are left
use Rattle.std.proofs.Common.{◌≡◌, ◌≤◌, ◌++◌, ◌-◌, suc, length, drop}
use Rattle.nats_broker.specs.Routes.{rows_from, rows_of}
use Rattle.nats_broker.proofs.rows.all_rows.Given as goal

abbrev pub invariant-peers : goal.invariant-peers
invariant-peers l =
    (l.k ≤ length l.fn.broker.peers)
    × (l.rows.items ++ rows_from (suc l.k) (drop l.k l.fn.broker.peers) l.fn.broker ≡ rows_of l.fn.broker)

abbrev pub decreases-peers : goal.decreases-peers
decreases-peers l = length l.fn.broker.peers - l.k
