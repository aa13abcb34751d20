use Rattle.nats_session.proofs.Once.{reply_once}
use Rattle.nats_session.proofs.laws.reply_once.Goals as goal

pub returns : goal.returns
returns c = reply_once
