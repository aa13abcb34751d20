-- One after another leaves and ends; then none is left that was noted.
use Rattle.std.proofs.Common.{map, sym, ◌∙◌, ap}
use Rattle.nats_subs.proofs.Noted.{link_ended, ended_same, covers_left, all_ended}
use Rattle.nats_subs.proofs.subs.end_drained.Goals as goal

pub drained-preserved : goal.drained-preserved
drained-preserved c = record {
  rows = ap (map link_ended) c.alter.ensures.changed ∙ (ended_same c.in-Some.sid c.drained.table ∙ c.drained.invariant.rows);
  covers = covers_left c.drained.drained c.pop.new.self c.in-Some.sid c.drained.table c.alter.new.self c.alter.ensures.changed c.in-Some.ensures.some c.drained.invariant.covers;
}

pub returns-else-forget_others : goal.returns-else-forget_others
returns-else-forget_others c =
    sym (all_ended c.drained.drained c.pop.new.self.is_partial c.drained.table c.tidy.ensures c.drained.invariant.covers c.in_default.ensures.none (sym c.forget_others.ensures ∙ c.if-forget_others.false))
    ∙ c.drained.invariant.rows
