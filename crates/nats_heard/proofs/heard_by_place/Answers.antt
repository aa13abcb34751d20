use Rattle.nats_heard.proofs.Places.{heard_by_place}
use Rattle.nats_heard.proofs.heard_by_place.Goals as goal

pub returns : goal.returns
returns c = heard_by_place
