-- Each number has its row.
use Rattle.std.proofs.Common.{length, sym, ◌∙◌, ap}
use Rattle.nats_tables.specs.Pages.{row_of}
use Rattle.nats_tables.proofs.Tables.{length-rows}
use Rattle.nats_tables.proofs.table.Table.len.Goals as goal

pub returns : goal.returns
returns g c = sym (length-rows g.T.Row.forgotten c.self.inside.given (row_of c.self.inside.kept)) ∙ ap length c.self.view_is
