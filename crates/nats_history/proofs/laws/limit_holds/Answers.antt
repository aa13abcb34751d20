use Rattle.nats_history.proofs.Limits.{limit_holds}
use Rattle.nats_history.proofs.laws.limit_holds.Goals as goal

pub returns : goal.returns
returns c = limit_holds
