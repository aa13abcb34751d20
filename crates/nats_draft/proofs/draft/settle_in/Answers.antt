-- One ticket settles, or none where it was not given.
use Rattle.std.proofs.Common.{sym}
use Rattle.nats_history.specs.Tickets.{settle_once}
use Rattle.nats_draft.proofs.Items.{set_with, number_missing}
use Rattle.nats_draft.proofs.draft.settle_in.Goals as goal

pub returns-in-Some : goal.returns-in-Some
returns-in-Some c =
    let found = c.in-Some.ensures in
    set_with (settle_once (c.args.place, c.args.reply)) c.args.rows.now c.args.ticket c.in-Some.index _ c.settle_one.new.row found.0 found.1 c.settle_one.ensures

pub returns-in-None : goal.returns-in-None
returns-in-None c =
    sym (number_missing (settle_once (c.args.place, c.args.reply)) c.args.rows.now c.args.ticket c.in-None.ensures)
