-- the commands of the rows behind the last one are left
use Rattle.std.proofs.Common.{◌≡◌, suc, ◌++◌, ◌-◌, drop, length}
use Rattle.nats_history.specs.History.{commands_from}
use Rattle.nats_subs.specs.Delivery.{commands_by}
use Rattle.nats_subs.proofs.subs.texts_in.Given as goal

abbrev pub invariant-rows : goal.invariant-rows
invariant-rows l = record {
  ops : l.ops.items ++ commands_from (commands_by l.texts) (suc l.last) (drop l.last l.table) ≡ commands_from (commands_by l.initial.texts) 1 l.table;
  same : l.texts ≡ l.initial.texts;
}

abbrev pub decreases-rows : goal.decreases-rows
decreases-rows l = length l.table - l.last
