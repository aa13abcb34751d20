-- those so far
use Rattle.std.proofs.Common.{◌≡◌, filter, take}
use Rattle.nats_picking.specs.Hearing.{is_other}
use Rattle.nats_picking.specs.Picking.{nows}
use Rattle.nats_picking.proofs.picking.others.Given as goal

abbrev pub invariant-loop-i : goal.invariant-loop-i
invariant-loop-i l = nows l.found.items ≡ filter (is_other l.fn.peer) (nows (take l.i-index l.fn.matching))
