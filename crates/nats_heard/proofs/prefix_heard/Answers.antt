use Rattle.nats_heard.proofs.Prefixes.{prefix_heard}
use Rattle.nats_heard.proofs.prefix_heard.Goals as goal

pub returns : goal.returns
returns c = prefix_heard
