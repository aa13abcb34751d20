-- Each row was changed, and none ends with its link any more.
use Rattle.std.proofs.Common.{sym, ◌∙◌, ap, subst}
use Rattle.nats_history.specs.Parts.{Subs}
use Rattle.nats_subs.specs.declared.subs.subscription.Alteration.TheVariants as alterations
use Rattle.nats_subs.specs.Delivery.{rows_each, with_rows}
use Rattle.nats_subs.specs.Draining.{Covers}
use Rattle.nats_subs.proofs.Counted.{rows_altered}
use Rattle.nats_subs.proofs.Noted.{link_ended, covers_ended}
use Rattle.nats_subs.proofs.subs.Subscriptions.end_link.Goals as goal

pub end_drained-requires : goal.end_drained-requires
end_drained-requires c = c.self.invariant

pub returns : goal.returns
returns c =
    rows_altered c.self.inside.subscribed link_ended c.self.inside.table c.end_drained.new.table c.end_drained.ensures
    ∙ ap (λ (s : Subs). with_rows (rows_each alterations.EndLink s.rows) s) c.self.view_is

pub invariant_of-self : goal.invariant_of-self
invariant_of-self c = subst (Covers c.end_drained.new.drained) (sym c.end_drained.ensures) (covers_ended c.end_drained.new.drained c.self.inside.table)
