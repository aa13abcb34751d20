-- The loss is played, and then due steps are.
use Rattle.std.proofs.Common.{subst}
use Rattle.nats_core.specs.Calls.{PlaysDue}
use Rattle.nats_core.proofs.machine.Core.lose.Goals as goal

pub returns-clause-ok : goal.returns-clause-ok
returns-clause-ok c = subst (λ core. PlaysDue core c.settle.new.self) c.in_ok-note_turn.ensures.ok c.settle.ensures
