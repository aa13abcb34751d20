use Rattle.std.proofs.Common.{ap}
use Rattle.std.specs.Result.{is_ok, is_err}
use Rattle.nats_rpc.specs.Calls.{outcome_in}
use Rattle.nats_rpc.proofs.Polls.{tells_not, tells_so, polls_by}
use Rattle.nats_rpc.proofs.caller.Caller.poll.Goals as goal

pub returns-in_err-advance : goal.returns-in_err-advance
returns-in_err-advance c =
    polls_by c.args.call c.args.now c.args.self.now c.self.inside.terms c.self.inside.numbers
    c.self.inside.calls.items c.args.core.now c.catch_up.new.self c.advance.new.core c.index_mut-asked.result.now
    c.advance.new.asked c.advance.result c.from_residual-in_err-advance.result c.advance.new.numbers
    c.self.view_is c.in_ok-catch_up.ensures.ok c.index_mut-asked.ensures.value c.advance.ensures
    (tells_not c.advance.result (outcome_in c.advance.new.asked.stage) c.from_residual-in_err-advance.result
    (ap is_err c.in_err-advance.was) c.from_residual-in_err-advance.ensures.0)

pub returns : goal.returns
returns c =
    polls_by c.args.call c.args.now c.args.self.now c.self.inside.terms c.self.inside.numbers
    c.self.inside.calls.items c.args.core.now c.catch_up.new.self c.advance.new.core c.index_mut-asked.result.now
    c.advance.new.asked c.advance.result c.outcome.result c.advance.new.numbers
    c.self.view_is c.in_ok-catch_up.ensures.ok c.index_mut-asked.ensures.value c.advance.ensures
    (tells_so c.advance.result (outcome_in c.advance.new.asked.stage) c.outcome.result (ap is_ok c.in_ok-advance.was)
    c.outcome.ensures.ok c.outcome.ensures.wants)
