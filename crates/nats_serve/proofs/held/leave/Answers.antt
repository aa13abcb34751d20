-- The peer left behind all that was due.
use Rattle.std.proofs.Common.{rules}
use Rattle.nats_serve.proofs.held.leave.Goals as goal

pub returns : goal.returns
returns c = search rules
