-- The law, by that of all that is due.
use Rattle.nats_broker_laws.proofs.Order.{in_order}
use Rattle.nats_broker_laws.proofs.laws.in_order.Goals as goal

pub returns : goal.returns
returns c = in_order c.all_is_done.ensures
