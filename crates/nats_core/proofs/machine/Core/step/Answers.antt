-- What was played is noted.
use Rattle.nats_core.proofs.Cores.{steps_note, noted_ok, noted_err}
use Rattle.nats_core.proofs.machine.Core.step.Goals as goal

pub returns-clause-journal : goal.returns-clause-journal
returns-clause-journal c =
    noted_ok c.args.self.now c.step_once.new.self c.args.turn c.step_once.result (steps_note c.args.self.now c.step_once.new.self c.args.turn c.step_once.result c.step_once.ensures)

pub returns-clause-others : goal.returns-clause-others
returns-clause-others c =
    noted_err c.args.self.now c.step_once.new.self c.args.turn c.step_once.result (steps_note c.args.self.now c.step_once.new.self c.args.turn c.step_once.result c.step_once.ensures)
