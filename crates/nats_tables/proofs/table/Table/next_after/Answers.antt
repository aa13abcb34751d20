-- The range above the number begins at the next one that does not rest.
use Rattle.std.proofs.Common.{suc, drop, ◌∙◌, ap}
use Rattle.nats_tables.specs.Rows.{first_awake}
use Rattle.nats_tables.specs.Pages.{row_of}
use Rattle.nats_tables.proofs.Walks.{next_none, next_some}
use Rattle.nats_tables.proofs.table.Table.next_after.Goals as goal

pub returns-in-Some : goal.returns-in-Some
returns-in-Some g c =
    next_some g.T.Row.over g.T.Row.rests g.T.Row.forgotten c.self.inside.given c.args.number (row_of c.self.inside.kept) c.self.inside.awake c.range.result g.met.T.Row.over_rests c.self.invariant.0 c.self.invariant.1 (c.range.ensures.in_range tt) _ _ c.in-Some.ensures.steps
    ∙ ap (λ rows. first_awake g.T.Row.rests (suc c.args.number) (drop c.args.number rows)) c.self.view_is

pub returns-in-None : goal.returns-in-None
returns-in-None g c =
    next_none g.T.Row.over g.T.Row.rests g.T.Row.forgotten c.self.inside.given c.args.number (row_of c.self.inside.kept) c.self.inside.awake c.range.result g.met.T.Row.over_rests c.self.invariant.0 c.self.invariant.1 (c.range.ensures.in_range tt) c.in-None.ensures.steps.0
    ∙ ap (λ rows. first_awake g.T.Row.rests (suc c.args.number) (drop c.args.number rows)) c.self.view_is
