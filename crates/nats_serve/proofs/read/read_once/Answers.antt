-- All that the link gave was fed.
use Rattle.std.proofs.Common.{rules}
use Rattle.nats_serve.proofs.read.read_once.Goals as goal

pub returns-in-Bytes-clause-once : goal.returns-in-Bytes-clause-once
returns-in-Bytes-clause-once c = search rules
