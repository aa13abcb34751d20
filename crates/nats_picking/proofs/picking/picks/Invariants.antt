-- the best of those that were looked at
use Rattle.std.proofs.Common.{◌≡◌, take}
use Rattle.nats_picking.specs.Picking.{nows, picks}
use Rattle.nats_picking.proofs.picking.picks.Given as goal

abbrev pub invariant-loop-i : goal.invariant-loop-i
invariant-loop-i l = nows l.all.items ≡ picks (nows (take l.i-index l.fn.heard))
