use Rattle.nats_history.proofs.Drains.{drain_puts}
use Rattle.nats_history.proofs.laws.drain_puts.Goals as goal

pub returns : goal.returns
returns c = drain_puts
