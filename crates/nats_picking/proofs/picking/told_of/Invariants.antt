-- none before
use Rattle.std.proofs.Common.{◌≡◌, drop}
use Rattle.std.specs.List.{find}
use Rattle.nats_picking.specs.Hearing.{answers}
use Rattle.nats_picking.proofs.picking.told_of.Given as goal

abbrev pub invariant-loop-i : goal.invariant-loop-i
invariant-loop-i l = find (answers l.fn.peer l.fn.reply) l.fn.interests ≡ find (answers l.fn.peer l.fn.reply) (drop l.i-index l.fn.interests)
