-- The answer that is kept was submitted, or memory was wanting for it.
use Rattle.std.proofs.Common.{rules}
use Rattle.nats_rpc.proofs.Serving.{sends_still, sends_done, sends_not}
use Rattle.nats_rpc.proofs.service.Service.publish_kept.Goals as goal

pub returns-in_err-served : goal.returns-in_err-served
returns-in_err-served g c =
    sends_not c.self.inside.number c.self.inside.kept c.self.inside.answer c.args.self.now c.in-Some.kept
    c.args.core.now c.publish.new.core c.from_residual.result c.self.view_is c.in-Some.is c.in_err-served.ensures
    c.from_residual.ensures.0

pub returns-then-not-is_done : goal.returns-then-not-is_done
returns-then-not-is_done g c =
    sends_still c.self.inside.number c.self.inside.kept c.self.inside.answer c.args.self.now c.in-Some.kept
    c.args.core.now c.publish.new.core c.in_ok-served.served c.in_ok-served.is_done c.self.view_is c.in-Some.is
    c.in_ok-served.ensures (search rules)

pub returns : goal.returns
returns g c =
    sends_done c.self.inside.number c.self.inside.kept c.take.new.self c.self.inside.answer c.args.self.now
    c.in-Some.kept c.args.core.now c.publish.new.core c.in_ok-served.served c.in_ok-served.is_done c.self.view_is
    c.in-Some.is c.in_ok-served.ensures (search rules) (search rules)
