-- The next number that was given opens.
use Rattle.std.proofs.Common.{◌<◌, ◌∙◌, ap, length, arith, add-one}
use Rattle.std.proofs.lemmas.Bool.{lt-ltb}
use Rattle.nats_subs.specs.declared.subs.subscription.Alteration.TheVariants as alterations
use Rattle.nats_subs.specs.Delivery.{rows_with, subscribed_one}
use Rattle.nats_subs.proofs.Counted.{as_subs, next_opens}
use Rattle.nats_history.specs.History.{Sub, kept}
use Rattle.nats_subs.specs.Delivery.{altered}
use Rattle.nats_subs.proofs.Noted.{covers_settled}
use Rattle.nats_subs.proofs.subs.Subscriptions.subscribe.Goals as goal

pub returns-then-self-len : goal.returns-then-self-len
returns-then-self-len c =
    let subscribed = c.self.inside.subscribed in
    let rows = c.self.inside.table in
    let less : subscribed < length rows = omega (arith, c.if-self-len.true, c.len.ensures) in
    let next = lt-ltb subscribed (length rows) less in
    let one = add-one subscribed in
    ap (λ n. as_subs n c.alter.new.self) one
    ∙ (next_opens subscribed rows c.alter.new.self next (c.alter.ensures.changed ∙ ap (λ n. rows_with n alterations.Open rows) one) ∙ ap subscribed_one c.self.view_is)

pub invariant_of-self : goal.invariant_of-self
invariant_of-self c =
    let f = λ (sub : Sub). kept (altered alterations.Open sub) in
    covers_settled c.self.inside.drained c.settle.new.self _ f c.self.inside.table c.alter.new.self c.alter.ensures.changed c.settle.ensures.others c.self.invariant
    (λ drained. c.settle.ensures.here (c.is_drained-is_drained.ensures ∙ drained))
