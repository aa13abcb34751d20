-- The row of the number was changed.
use Rattle.std.proofs.Common.{sym, ◌∙◌, ap, subst}
use Rattle.nats_tables.specs.Numbers.{at_number}
use Rattle.nats_history.specs.History.{Sub, kept}
use Rattle.nats_history.specs.Parts.{Subs}
use Rattle.nats_subs.specs.Delivery.{take_from, with_rows}
use Rattle.nats_subs.proofs.Counted.{row_altered}
use Rattle.nats_subs.specs.Draining.{Covers}
use Rattle.nats_subs.proofs.Noted.{covers_at, taken_drainless}
use Rattle.nats_subs.proofs.subs.Subscriptions.take.Goals as goal

pub returns-clause-rest : goal.returns-clause-rest
returns-clause-rest c =
    let f = λ (sub : Sub). kept (take_from sub) in
    row_altered c.self.inside.subscribed c.args.sid f c.self.inside.table c.alter.new.self c.alter.ensures.changed
    ∙ ap (λ (s : Subs). with_rows (at_number c.args.sid f s.rows) s) c.self.view_is

pub invariant_of-self : goal.invariant_of-self
invariant_of-self c =
    let f = λ (sub : Sub). kept (take_from sub) in
    subst (Covers c.self.inside.drained) (sym c.alter.ensures.changed) (covers_at c.self.inside.drained f taken_drainless c.args.sid c.self.inside.table c.self.invariant)
