-- The call was taken in or refused, and its user let a subscription go.
use Rattle.std.proofs.Common.{◌∙◌, ap}
use Rattle.nats_subs.specs.declared.subs.subscription.Alteration.TheVariants as alterations
use Rattle.nats_subs.specs.Delivery.{rows_named, with_rows}
use Rattle.nats_session.proofs.Handlers.{submitted}
use Rattle.nats_session.proofs.handler.ConnectionHandler.accept.Goals as goal

pub returns-in-Ok : goal.returns-in-Ok
returns-in-Ok c =
    let subs = c.self.inside.exchange.subs in
    submitted c.args.self.now c.take_in.new.self _ c.args.call c.in-Ok.reply c.alter_named.new.self c.in-Ok.ensures c.self.view_is
    (c.alter_named.ensures ∙ ap (λ name. with_rows (rows_named name alterations.LetGo subs.rows) subs) c.lets_go-gone.ensures)
