use Rattle.nats_picking.proofs.Onces.{each_once, in_order}
use Rattle.nats_picking.proofs.laws.each_group_once.Goals as goal

pub returns-clause-once : goal.returns-clause-once
returns-clause-once c = each_once

pub returns-clause-order : goal.returns-clause-order
returns-clause-order c = in_order
