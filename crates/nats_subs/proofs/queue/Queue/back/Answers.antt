-- The youngest item is the last one.
use Rattle.std.proofs.Common.{◌∙◌, ap, arith}
use Rattle.nats_history.specs.Queue.{last}
use Rattle.nats_subs.proofs.Ends.{back_is}
use Rattle.nats_subs.proofs.queue.Queue.back.Goals as goal

pub returns : goal.returns
returns g c =
    let called = c.back.ensures in
    back_is c.self.inside.items.items _ c.back.result (omega (arith, c.self.inside.items.ok)) called.variant called.lookup ∙ ap last c.self.view_is
