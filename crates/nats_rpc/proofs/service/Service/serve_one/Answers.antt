-- A kept answer is submitted; else a message is taken, and its answer.
use Rattle.std.proofs.Common.{rules, refl}
use Rattle.nats_rpc.proofs.Serving.{serves_again, serves_new, serves_told, serves_not}
use Rattle.nats_rpc.proofs.service.Service.serve_one.Goals as goal

pub returns-then-is_some-clause-serves : goal.returns-then-is_some-clause-serves
returns-then-is_some-clause-serves g c = serves_again _ _ _ _ _ _ _ c.publish_kept.ensures

pub returns-in_err-served-clause-serves : goal.returns-in_err-served-clause-serves
returns-in_err-served-clause-serves g c =
    serves_not _ _ c.self.inside.number c.self.inside.kept c.self.inside.answer c.take_in.new.answer c.args.self.now _
    c.args.core.now c.take_in.new.core c.from_residual.result c.self.view_is (search rules)
    c.in_err-served.ensures.takes.0 c.in_err-served.ensures.takes.1 refl c.from_residual.ensures.0

pub returns-in-Told-clause-serves : goal.returns-in-Told-clause-serves
returns-in-Told-clause-serves g c =
    serves_told _ _ c.self.inside.number c.self.inside.kept c.self.inside.answer c.take_in.new.answer c.args.self.now _
    c.in-Told.served c.args.core.now c.take_in.new.core c.self.view_is (search rules) (rw c.in-Told.is at c.in_ok-served.ensures.takes) refl

pub returns-in-Kept-clause-serves : goal.returns-in-Kept-clause-serves
returns-in-Kept-clause-serves g c =
    serves_new _ _ c.self.inside.number c.self.inside.kept c.self.inside.answer c.take_in.new.answer c.args.self.now _ _
    c.in-Kept.kept c.args.core.now c.take_in.new.core c.publish_new.new.core _ c.self.view_is (search rules)
    (rw c.in-Kept.is at c.in_ok-served.ensures.takes) refl c.publish_new.ensures
