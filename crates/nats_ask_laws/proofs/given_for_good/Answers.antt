use Rattle.nats_ask_laws.proofs.Given.{given_for_good}
use Rattle.nats_ask_laws.proofs.given_for_good.Goals as goal

pub returns : goal.returns
returns c = given_for_good
