-- The law, by those of what brokers tell.
use Rattle.nats_own_laws.proofs.Told as told
use Rattle.nats_own_laws.proofs.laws.told_own.Goals as goal

pub returns : goal.returns
returns c = told.told_own c.told_as_asked.ensures c.in_order.ensures c.read_back.ensures
