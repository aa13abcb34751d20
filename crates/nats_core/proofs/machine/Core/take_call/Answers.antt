-- The call is taken in, and then due steps are played.
use Rattle.std.proofs.Common.{subst}
use Rattle.nats_core.specs.Calls.{PlaysDue}
use Rattle.nats_core.proofs.machine.Core.take_call.Goals as goal

pub returns-in-Ok-clause-ok : goal.returns-in-Ok-clause-ok
returns-in-Ok-clause-ok c = subst (λ core. PlaysDue core c.settle.new.self) c.in-Ok.ensures.ok c.settle.ensures
