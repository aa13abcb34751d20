-- The peer joined behind all that was due.
use Rattle.std.proofs.Common.{arith}
use Rattle.std.proofs.lemmas.Grind.{common_steps}
use Rattle.nats_serve.proofs.held.join.Goals as goal

pub returns : goal.returns
returns c = grind (arith, common_steps)
