-- A note changes the one row, or none where the number was not given.
use Rattle.std.proofs.Common.{sym, ap, ◌∙◌}
use Rattle.std.proofs.lemmas.Result.{on_ok_weaker}
use Rattle.nats_draft.specs.Sheet.{write_take}
use Rattle.nats_draft.proofs.Items.{set_number, number_missing}
use Rattle.nats_draft.proofs.draft.take_in.Goals as goal

pub returns-in-Some : goal.returns-in-Some
returns-in-Some c =
    let f = write_take c.args.place c.args.reply in
    let found = c.in-Some.ensures in
    on_ok_weaker c.take_on.result (λ e. set_number f c.args.rows.now c.args.sid c.in-Some.index c.index-rows-index.result c.take_on.new.row found.0 found.1 c.index-rows-index.is (e ∙ ap f (sym c.index-rows-index.is))) c.take_on.ensures

pub returns-in-None : goal.returns-in-None
returns-in-None c =
    sym (number_missing (write_take c.args.place c.args.reply) c.args.rows.now c.args.sid c.in-None.ensures)
