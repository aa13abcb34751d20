-- Each row was changed.
use Rattle.std.proofs.Common.{sym, ◌∙◌, ap, subst}
use Rattle.nats_history.specs.History.{Sub, kept}
use Rattle.nats_history.specs.Parts.{Subs}
use Rattle.nats_subs.specs.declared.subs.subscription.Alteration.TheVariants as alterations
use Rattle.nats_subs.specs.Delivery.{altered, rows_each, with_rows}
use Rattle.nats_subs.proofs.Counted.{rows_altered, renew_leaves}
use Rattle.nats_subs.specs.Draining.{Covers}
use Rattle.nats_subs.proofs.Noted.{covers_each, renewed_drainless}
use Rattle.nats_subs.proofs.subs.Subscriptions.renew.Goals as goal

pub alter_rows-requires : goal.alter_rows-requires
alter_rows-requires c = renew_leaves

pub returns : goal.returns
returns c =
    let f = λ (sub : Sub). kept (altered alterations.Renew sub) in
    rows_altered c.self.inside.subscribed f c.self.inside.table c.alter_rows.new.table c.alter_rows.ensures
    ∙ ap (λ (s : Subs). with_rows (rows_each alterations.Renew s.rows) s) c.self.view_is

pub invariant_of-self : goal.invariant_of-self
invariant_of-self c =
    let f = λ (sub : Sub). kept (altered alterations.Renew sub) in
    subst (Covers c.self.inside.drained) (sym c.alter_rows.ensures) (covers_each c.self.inside.drained f renewed_drainless c.self.inside.table c.self.invariant)
