-- What is not kept is shown as forgotten.
use Rattle.std.proofs.Common.{subst}
use Rattle.nats_tables.specs.Rows.{Tidy}
use Rattle.nats_tables.specs.Pages.{row_of}
use Rattle.nats_tables.proofs.Walks.{tidy_rows}
use Rattle.nats_tables.proofs.table.Table.tidy.Goals as goal

pub returns : goal.returns
returns g c = subst (Tidy g.T.Row.over g.T.Row.forgotten) c.self.view_is (tidy_rows g.T.Row.over g.T.Row.forgotten c.self.inside.given (row_of c.self.inside.kept) c.self.invariant.0.0)
