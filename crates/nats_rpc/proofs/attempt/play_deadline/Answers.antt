use Rattle.std.proofs.Common.{rules, sym, ◌∙◌}
use Rattle.nats_rpc.proofs.Polls.{deadline_went_on, deadline_wants}
use Rattle.nats_rpc.proofs.attempt.play_deadline.Goals as goal

pub returns-clause-ok : goal.returns-clause-ok
returns-clause-ok c =
    deadline_went_on c.args.core.now c.step.new.self c.args.ticket c.step.result (search rules) c.step.ensures.steps

pub returns-then-is_wanting-clause-err : goal.returns-then-is_wanting-clause-err
returns-then-is_wanting-clause-err c =
    deadline_wants c.args.core.now c.step.new.self c.args.ticket c.step.result (search rules) c.step.ensures.steps
