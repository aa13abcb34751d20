-- The call that was made is noted.
use Rattle.nats_core.proofs.Cores.{submits_note, submits_stay}
use Rattle.nats_core.proofs.machine.Core.submit.Goals as goal

pub returns-clause-journal : goal.returns-clause-journal
returns-clause-journal c = submits_note c.args.self.now c.submit_once.new.self c.args.call c.submit_once.result c.submit_once.ensures

pub returns-clause-others : goal.returns-clause-others
returns-clause-others c = submits_stay c.args.self.now c.submit_once.new.self c.args.call c.submit_once.result c.submit_once.ensures
