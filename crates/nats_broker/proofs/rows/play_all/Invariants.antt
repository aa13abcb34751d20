-- the turns that are left lead to the same
use Rattle.std.proofs.Common.{◌≡◌, ◌≤◌, ◌-◌, suc, length, drop}
use Rattle.nats_broker.specs.Playing.{played, out_of_turn_from}
use Rattle.nats_broker.proofs.rows.play_all.Given as goal

abbrev pub invariant-turns : goal.invariant-turns
invariant-turns l =
    (l.place ≤ length l.fn.turns)
    × (played (drop l.place l.fn.turns) l.broker ≡ played l.fn.turns l.fn.broker)
    × (out_of_turn_from (suc l.place) (drop l.place l.fn.turns) l.broker ≡ out_of_turn_from 1 l.fn.turns l.fn.broker)

abbrev pub decreases-turns : goal.decreases-turns
decreases-turns l = length l.fn.turns - l.place
