-- those among the ones that were looked at
use Rattle.std.proofs.Common.{◌≡◌, ◌++◌, take}
use Rattle.nats_picking.specs.Picking.{nows, plain_targets}
use Rattle.nats_picking.proofs.picking.push_plain.Given as goal

abbrev pub invariant-loop-i : goal.invariant-loop-i
invariant-loop-i l = l.all.items ≡ l.fn.all.items ++ plain_targets (nows (take l.i-index l.fn.heard))
