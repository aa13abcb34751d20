-- One row after another, and those that are passed over rest, so that they have no commands.
use Rattle.std.proofs.Common.{refl, sym}
use Rattle.nats_history.specs.History.{commands_from}
use Rattle.nats_subs.specs.Forgetting.{rests}
use Rattle.nats_subs.specs.Delivery.{commands_by}
use Rattle.nats_tables.proofs.Walks.{fewer_left}
use Rattle.nats_subs.proofs.Counted.{one_command, commands_done}
use Rattle.nats_subs.proofs.subs.texts_in.Goals as goal

pub rows-smaller : goal.rows-smaller
rows-smaller c = fewer_left rests c.rows.last c.in-Some.sid c.args.table.now c.args.table.now refl (sym c.in-Some.ensures)

pub rows-preserved : goal.rows-preserved
rows-preserved c = record {
  ops = one_command c.args.texts c.rows.last c.in-Some.sid c.args.table.now c.rows.ops.items c.push_texts.new.ops.items (commands_from (commands_by c.args.texts) 1 c.args.table.now) c.rows.invariant.ops (sym c.in-Some.ensures) c.in_ok-push_texts.ensures;
  same = refl;
}

pub returns : goal.returns
returns c =
    commands_done c.args.texts c.rows.last c.args.table.now c.rows.ops.items (commands_from (commands_by c.args.texts) 1 c.args.table.now) c.rows.invariant.ops (sym c.in_default.ensures)
