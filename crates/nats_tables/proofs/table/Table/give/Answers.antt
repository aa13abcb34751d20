-- The row came under the next number.
use Rattle.std.proofs.Common.{◌≡◌, ◌++◌, [], ◌∷◌, suc, ◌∙◌, ap, arith, subst, sym, Some}
use Rattle.nats_tables.specs.Pages.{row_of, given_in}
use Rattle.nats_tables.specs.Rows.{ChangedAt}
use Rattle.nats_tables.proofs.Tables.{rows_more}
use Rattle.nats_tables.proofs.table.Table.give.Goals as goal

pub returns-clause-ok : goal.returns-clause-ok
returns-clause-ok g c =
    let next : c.in-Some.number ≡ suc c.self.inside.given = omega (arith, c.in-Some.ensures) in
    let kept = c.self.inside.kept in
    let first : c.in-Some.number ≡ suc (given_in kept) = next ∙ ap suc (sym c.self.invariant.2) in
    let put = subst (λ n. ChangedAt n (Some c.args.row) (row_of kept) (row_of c.push.new.self)) (sym first) c.in-Ok.ensures.ok in
    rows_more g.T.Row.forgotten c.self.inside.given c.in-Some.number (row_of c.self.inside.kept) (row_of c.push.new.self) c.in-Some.number c.args.row next put ∙ ap (λ rows. rows ++ c.args.row ∷ []) c.self.view_is
