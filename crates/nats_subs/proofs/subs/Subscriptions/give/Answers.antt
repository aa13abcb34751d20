-- One more row came.
use Rattle.std.proofs.Common.{◌++◌, ◌∷◌, [], ◌∙◌, ap}
use Rattle.std.proofs.lemmas.Result.{on_ok_weaker}
use Rattle.nats_subs.specs.Delivery.{given_one, asked_sub}
use Rattle.nats_subs.proofs.Counted.{one_given}
use Rattle.std.proofs.Common.{refl}
use Rattle.nats_subs.proofs.Noted.{covers_more, covers_tried}
use Rattle.nats_subs.proofs.subs.Subscriptions.give.Goals as goal

pub returns-clause-ok : goal.returns-clause-ok
returns-clause-ok c =
    on_ok_weaker c.give.result
    (λ is. one_given c.self.inside.subscribed c.args.interest c.self.inside.table c.give.new.self (is ∙ ap (λ row. c.self.inside.table ++ row ∷ []) c.new.ensures) ∙ ap (given_one c.args.interest) c.self.view_is)
    c.give.ensures.ok

pub invariant_of-self : goal.invariant_of-self
invariant_of-self c =
    let rows = c.self.inside.table in
    let asked = asked_sub c.args.interest in
    covers_tried c.self.inside.drained c.give.result rows (rows ++ asked ∷ []) c.give.new.self
    (on_ok_weaker c.give.result (λ is. is ∙ ap (λ row. rows ++ row ∷ []) c.new.ensures) c.give.ensures.ok) c.give.ensures.err
    (covers_more c.self.inside.drained rows asked refl c.self.invariant) c.self.invariant
