-- What is kept is what is shown of those that are not over.
use Rattle.std.proofs.Common.{◌∙◌, ap}
use Rattle.nats_tables.specs.Numbers.{item_of}
use Rattle.nats_tables.specs.Rows.{kept_row}
use Rattle.nats_tables.specs.Pages.{row_of}
use Rattle.nats_tables.proofs.Tables.{item_kept}
use Rattle.nats_tables.proofs.table.Table.item.Goals as goal

pub returns : goal.returns
returns g c =
    c.get.ensures ∙ (item_kept g.T.Row.over g.T.Row.forgotten c.self.inside.given (row_of c.self.inside.kept) c.self.invariant.0 c.args.number ∙ ap (λ rows. kept_row g.T.Row.over (item_of c.args.number rows)) c.self.view_is)
