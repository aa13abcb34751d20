-- One row after another, and those that are passed over rest, so that nothing alters them.
use Rattle.std.proofs.Common.{suc, refl, sym, ◌∙◌, ap, length}
use Rattle.nats_tables.proofs.Numbers.{length-at_number}
use Rattle.nats_tables.proofs.Walks.{fewer_left, rest_changed, next_changed, none_changed}
use Rattle.nats_history.specs.History.{Sub, is_over, forgotten, kept}
use Rattle.nats_subs.specs.Delivery.{altered}
use Rattle.nats_subs.specs.Forgetting.{rests}
use Rattle.nats_subs.proofs.Counted.{rests_still}
use Rattle.nats_subs.proofs.subs.alter_rows.Goals as goal

pub rows-smaller : goal.rows-smaller
rows-smaller c =
    let f = λ (sub : Sub). kept (altered c.args.alteration sub) in
    fewer_left rests c.rows.last c.in-Some.sid c.rows.table c.alter.new.self (ap length c.alter.ensures.changed ∙ length-at_number c.in-Some.sid f c.rows.table) (sym c.in-Some.ensures)

pub rows-preserved : goal.rows-preserved
rows-preserved c =
    let f = λ (sub : Sub). kept (altered c.args.alteration sub) in
    record {
      rows = ap (rest_changed c.in-Some.sid f) c.alter.ensures.changed ∙ (sym (next_changed is_over rests forgotten f (rests_still c.args.alteration c.requires) c.rows.last c.in-Some.sid c.rows.table c.tidy.ensures (sym c.in-Some.ensures)) ∙ c.rows.invariant.rows);
      same = refl;
    }

pub returns : goal.returns
returns c =
    let f = λ (sub : Sub). kept (altered c.args.alteration sub) in
    sym (none_changed is_over rests forgotten f (rests_still c.args.alteration c.requires) (suc c.rows.last) c.rows.last c.rows.table c.tidy-2.ensures (sym c.in_default.ensures)) ∙ c.rows.invariant.rows
