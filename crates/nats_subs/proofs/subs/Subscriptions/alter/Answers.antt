-- The row of the number was changed.
use Rattle.std.proofs.Common.{◌∙◌, ap}
use Rattle.nats_history.specs.History.{Sub, kept}
use Rattle.nats_history.specs.Parts.{Subs}
use Rattle.nats_subs.specs.Delivery.{altered, rows_with, with_rows}
use Rattle.nats_subs.proofs.Counted.{row_altered}
use Rattle.nats_subs.proofs.Noted.{covers_settled}
use Rattle.nats_subs.proofs.subs.Subscriptions.alter.Goals as goal

pub returns : goal.returns
returns c =
    let f = λ (sub : Sub). kept (altered c.args.alteration sub) in
    row_altered c.self.inside.subscribed c.args.sid f c.self.inside.table c.alter.new.self c.alter.ensures.changed
    ∙ ap (λ (s : Subs). with_rows (rows_with c.args.sid c.args.alteration s.rows) s) c.self.view_is

pub invariant_of-self : goal.invariant_of-self
invariant_of-self c =
    let f = λ (sub : Sub). kept (altered c.args.alteration sub) in
    covers_settled c.self.inside.drained c.settle.new.self c.args.sid f c.self.inside.table c.alter.new.self c.alter.ensures.changed c.settle.ensures.others c.self.invariant
    (λ drained. c.settle.ensures.here (c.is_drained-is_drained.ensures ∙ drained))
