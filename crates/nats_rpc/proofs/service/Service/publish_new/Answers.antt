-- The answer that was put there is the one that is submitted.
use Rattle.std.proofs.Common.{rules, ◌≡◌, sym, ap, ◌∙◌}
use Rattle.nats_rpc.specs.Serving.{Serving}
use Rattle.nats_rpc.proofs.Serving.{sends_new}
use Rattle.nats_rpc.proofs.service.Service.publish_new.Goals as goal

pub returns : goal.returns
returns g c = sends_new c.args.kept c.args.self.now _ _ _ _ _ (search rules) (search rules) (search rules)
    c.publish_kept.ensures
