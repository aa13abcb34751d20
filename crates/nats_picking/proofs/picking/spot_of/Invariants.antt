-- the member belongs behind those that were looked at
use Rattle.std.proofs.Common.{◌≡◌, ◌≤◌, ◌-◌, ◌++◌, length, take, drop}
use Rattle.nats_picking.specs.Picking.{nows, onto_pick}
use Rattle.nats_picking.proofs.picking.spot_of.Given as goal

abbrev pub invariant-all : goal.invariant-all
invariant-all l = (l.k ≤ length l.all) × (onto_pick l.fn.i (nows l.fn.all) ≡ take l.k (nows l.fn.all) ++ onto_pick l.fn.i (drop l.k (nows l.fn.all)))

abbrev pub decreases-all : goal.decreases-all
decreases-all l = length l.all - l.k
