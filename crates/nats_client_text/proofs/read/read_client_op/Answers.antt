-- What stands at the front follows from what is seen there.
use Rattle.std.proofs.Common.{sym, ◌∙◌}
use Rattle.nats_client_text.specs.Code.{op_text_view}
use Rattle.nats_client_text.proofs.Fronts.{less_seen, wrong_seen, got_seen, none_seen, whole_takes}
use Rattle.nats_client_text.proofs.read.read_client_op.Goals as goal

pub returns-in-Unfinished-clause-front : goal.returns-in-Unfinished-clause-front
returns-in-Unfinished-clause-front c = less_seen c.args.text.now c.in-Unfinished.ensures

pub returns-in-Bad-clause-front : goal.returns-in-Bad-clause-front
returns-in-Bad-clause-front c = wrong_seen c.args.text.now c.in-Bad.ensures

pub returns-in-Some-clause-front : goal.returns-in-Some-clause-front
returns-in-Some-clause-front c =
    got_seen c.args.text.now (op_text_view c.in-Whole.op) c.in-Whole.len c.in-Some.op c.in-Whole.ensures (sym c.in-Some.is ∙ c.in_ok-op-in-Whole.ensures.op)

pub returns-in-Some-clause-takes : goal.returns-in-Some-clause-takes
returns-in-Some-clause-takes c = whole_takes c.args.text.now (op_text_view c.in-Whole.op) c.in-Whole.len c.in-Whole.ensures

pub returns-in-None-clause-front : goal.returns-in-None-clause-front
returns-in-None-clause-front c =
    none_seen c.args.text.now (op_text_view c.in-Whole.op) c.in-Whole.len c.in-Whole.ensures (sym c.in-None.is ∙ c.in_ok-op-in-Whole.ensures.op)
