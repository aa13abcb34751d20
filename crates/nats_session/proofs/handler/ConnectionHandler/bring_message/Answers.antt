-- What becomes of a message: it is put, dropped, ends its subscription, or is ignored.
use Rattle.std.proofs.Common.{refl, sym, ◌∙◌}
use Rattle.nats_subs.specs.declared.subs.subscription.Delivery.TheVariants.{Put, Ignored}
use Rattle.nats_session.proofs.Messages.{delivered, dropped_one}
use Rattle.nats_session.proofs.handler.ConnectionHandler.bring_message.Goals as goal

pub returns-in_ok-deliver-in-Put-clause-ok : goal.returns-in_ok-deliver-in-Put-clause-ok
returns-in_ok-deliver-in-Put-clause-ok c =
    delivered _ c.args.self.now c.args.sid c.args.message.value c.deliver.new.self Put c.self.view_is c.in_ok-deliver-in-Put.ensures.ok (sym c.requires ∙ c.in-Put.is) refl

pub returns-in_ok-deliver-in-Ignored-clause-ok : goal.returns-in_ok-deliver-in-Ignored-clause-ok
returns-in_ok-deliver-in-Ignored-clause-ok c =
    delivered _ c.args.self.now c.args.sid c.args.message.value c.deliver-in-Ignored.new.self Ignored c.self-in-Ignored.view_is c.in_ok-deliver-in-Ignored.ensures.ok (sym c.requires ∙ c.in-Ignored.is) refl

pub returns-in_ok-push-in-Dropped-clause-ok : goal.returns-in_ok-push-in-Dropped-clause-ok
returns-in_ok-push-in-Dropped-clause-ok c =
    dropped_one _ c.args.self.now c.args.sid c.args.message.value c.push.new.self c.self-in-Dropped.view_is
    (sym c.requires ∙ c.in-Dropped.is) c.in_ok-push-in-Dropped.ensures.ok
