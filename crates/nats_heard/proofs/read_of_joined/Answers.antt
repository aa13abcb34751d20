use Rattle.nats_heard.proofs.Reading.{read_of_joined}
use Rattle.nats_heard.proofs.read_of_joined.Goals as goal

pub returns : goal.returns
returns c = read_of_joined
