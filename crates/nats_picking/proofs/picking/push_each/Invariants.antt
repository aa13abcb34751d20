-- those that were looked at
use Rattle.std.proofs.Common.{◌≡◌, ◌++◌, take, map}
use Rattle.nats_picking.specs.Picking.{nows, target_of}
use Rattle.nats_picking.proofs.picking.push_each.Given as goal

abbrev pub invariant-loop-i : goal.invariant-loop-i
invariant-loop-i l = l.all.items ≡ l.fn.all.items ++ map target_of (nows (take l.i-index l.fn.picks))
