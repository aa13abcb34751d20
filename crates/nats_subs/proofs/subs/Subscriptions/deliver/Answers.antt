-- The row of the number took the message in.
use Rattle.std.proofs.Common.{◌∙◌, ap}
use Rattle.std.proofs.lemmas.Result.{on_ok_weaker}
use Rattle.nats_tables.specs.Numbers.{at_number}
use Rattle.nats_history.specs.History.{Sub, kept}
use Rattle.nats_history.specs.Parts.{Subs}
use Rattle.nats_subs.specs.Delivery.{deliver, with_rows}
use Rattle.nats_subs.proofs.Counted.{row_altered}
use Rattle.nats_subs.proofs.Noted.{covers_at, covers_tried, delivered_drainless}
use Rattle.nats_subs.proofs.subs.Subscriptions.deliver.Goals as goal

pub returns-clause-ok : goal.returns-clause-ok
returns-clause-ok c =
    let f = λ (sub : Sub). kept (deliver c.args.config.now c.args.message.value sub) in
    on_ok_weaker c.try_alter.result
    (λ is. row_altered c.self.inside.subscribed c.args.sid f c.self.inside.table c.try_alter.new.self is ∙ ap (λ (s : Subs). with_rows (at_number c.args.sid f s.rows) s) c.self.view_is)
    c.try_alter.ensures.ok

pub invariant_of-self : goal.invariant_of-self
invariant_of-self c =
    let f = λ (sub : Sub). kept (deliver c.args.config.now c.args.message.value sub) in
    let rows = c.self.inside.table in
    covers_tried c.self.inside.drained c.try_alter.result rows (at_number c.args.sid f rows) c.try_alter.new.self c.try_alter.ensures.ok c.try_alter.ensures.err
    (covers_at c.self.inside.drained f (delivered_drainless c.args.config.now c.args.message.value) c.args.sid rows c.self.invariant) c.self.invariant
