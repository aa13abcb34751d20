-- The peer was not up.
use Rattle.std.proofs.Common.{rules}
use Rattle.nats_serve.proofs.read.read_into.Goals as goal

pub returns-in-Ok-Ended : goal.returns-in-Ok-Ended
returns-in-Ok-Ended c = search rules
