use Rattle.nats_ask_laws.proofs.Asking.{one_subject}
use Rattle.nats_ask_laws.proofs.one_subject.Goals as goal

pub returns : goal.returns
returns c = one_subject
