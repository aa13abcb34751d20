-- What each core keeps is told of its journal.
use Rattle.std.proofs.Common.{subst}
use Rattle.nats_core.specs.Journal.{IsSound}
use Rattle.nats_core.proofs.machine.Core.journal.Goals as goal

pub returns-clause-right : goal.returns-clause-right
returns-clause-right c = (subst IsSound c.self.view_is c.self.invariant).right
