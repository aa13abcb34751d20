use Rattle.nats_ask_laws.proofs.Given.{replied_as_given}
use Rattle.nats_ask_laws.proofs.replied_as_given.Goals as goal

pub returns : goal.returns
returns c = replied_as_given
