-- One more call waits; where it is a subscribe one more number was given, and else a subscription may be shut.
use Rattle.std.proofs.Common.{sym, ◌∙◌, ap}
use Rattle.nats_subs.specs.declared.subs.subscription.Alteration.TheVariants as alterations
use Rattle.nats_subs.specs.Delivery.{rows_named, with_rows}
use Rattle.nats_session.proofs.Handlers.{numbered_by, shut_by}
use Rattle.nats_session.proofs.handler.ConnectionHandler.take_in.Goals as goal

pub returns-in-Ok-give : goal.returns-in-Ok-give
returns-in-Ok-give c =
    numbered_by _ c.args.self.now c.args.call c.in-Some-interest.interest c.push.new.self c.give.new.self c.given.result c.self.view_is (sym c.in_default.ensures)
    (sym c.in-Ok.ensures ∙ c.in-Some-interest.is) c.in_default-push.ensures.ok c.in-Ok-give.ensures.ok c.given.ensures

pub returns-in_default-interest : goal.returns-in_default-interest
returns-in_default-interest c =
    let subs = c.self.inside.exchange.subs in
    let drained = c.is_drained_with-drained.ensures in
    shut_by _ c.args.self.now c.args.call c.is_drained_with-drained.result c.push.new.self c.alter_named.new.self c.self.view_is (sym c.in_default.ensures)
    (sym c.in_default-waits_as.ensures) (sym c.in-Ok.ensures ∙ c.in_default-interest.is) drained c.in_default-push.ensures.ok
    (c.alter_named.ensures ∙ ap (λ name. with_rows (rows_named name alterations.Shut subs.rows) subs) c.shuts-shut.ensures)
