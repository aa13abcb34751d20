-- What was played is noted.
use Rattle.nats_core.proofs.Cores.{steps_on_note, noted_ok, noted_err}
use Rattle.nats_core.proofs.machine.Core.step_on.Goals as goal

pub returns-clause-journal : goal.returns-clause-journal
returns-clause-journal c =
    noted_ok c.args.self.now c.step_once_on.new.self c.args.turn c.step_once_on.result (steps_on_note c.args.link c.args.self.now c.step_once_on.new.self c.args.turn c.step_once_on.result c.step_once_on.ensures)

pub returns-clause-others : goal.returns-clause-others
returns-clause-others c =
    noted_err c.args.self.now c.step_once_on.new.self c.args.turn c.step_once_on.result (steps_on_note c.args.link c.args.self.now c.step_once_on.new.self c.args.turn c.step_once_on.result c.step_once_on.ensures)
