-- the rows behind the last one are left to be altered
use Rattle.std.proofs.Common.{◌≡◌, ◌-◌, length, map}
use Rattle.nats_history.specs.History.{kept}
use Rattle.nats_subs.specs.Delivery.{altered}
use Rattle.nats_tables.proofs.Walks.{rest_changed}
use Rattle.nats_subs.proofs.subs.alter_rows.Given as goal

abbrev pub invariant-rows : goal.invariant-rows
invariant-rows l = record {
  rows : rest_changed l.last (λ sub. kept (altered l.alteration sub)) l.table ≡ map (λ sub. kept (altered l.alteration sub)) l.initial.table;
  same : l.alteration ≡ l.initial.alteration;
}

abbrev pub decreases-rows : goal.decreases-rows
decreases-rows l = length l.table - l.last
