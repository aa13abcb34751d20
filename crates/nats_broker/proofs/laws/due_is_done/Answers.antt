use Rattle.nats_broker.proofs.Settling.{due_is_done, none_left}
use Rattle.nats_broker.proofs.laws.due_is_done.Goals as goal

pub returns-clause-exact : goal.returns-clause-exact
returns-clause-exact c = due_is_done

pub returns-clause-none : goal.returns-clause-none
returns-clause-none c = none_left
