-- One that is not kept stays so, and one that is kept was changed.
use Rattle.std.proofs.Common.{◌≡◌, true, sym, ◌∙◌, ap, Some, None}
use Rattle.std.specs.Option.{option_copied_mut}
use Rattle.nats_tables.specs.Numbers.{at_number}
use Rattle.nats_tables.specs.Rows.{rows_in, row_at, tidied}
use Rattle.nats_tables.specs.Pages.{row_of}
use Rattle.nats_tables.proofs.Changes.{on_some, keeps_changed, index_changed}
use Rattle.nats_tables.proofs.Tables.{rows_missing, rows_altered, row_missing, row_kept}
use Rattle.nats_tables.proofs.table.Table.alter.Goals as goal

pub returns-in_default-clause-changed : goal.returns-in_default-clause-changed
returns-in_default-clause-changed g c =
    let gone = g.T.Row.forgotten in
    let f = λ (row : g.row.T.Denot). tidied g.T.Row.over gone (g.C.Change.changes c.args.change.now row) in
    let none : row_of c.self.inside.kept c.args.number ≡ None = sym c.get_mut.ensures.value ∙ ap option_copied_mut c.in_default.is in
    ap (λ m. rows_in gone c.self.inside.given (row_of m)) c.get_mut.follows.holds-at-none ∙ (rows_missing g.T.Row.over gone c.self.inside.given c.args.number (row_of c.self.inside.kept) f c.self.invariant.0.1 none (g.met.C.Change.leaves_forgotten c.args.change.now) ∙ ap (at_number c.args.number f) c.self.view_is)

pub returns-in_default-clause-answer : goal.returns-in_default-clause-answer
returns-in_default-clause-answer g c =
    let none : row_of c.self.inside.kept c.args.number ≡ None = sym c.get_mut.ensures.value ∙ ap option_copied_mut c.in_default.is in
    c.refuse.ensures ∙ ap (g.C.Change.answers c.args.change.now) (sym (row_missing g.T.Row.over g.T.Row.forgotten c.self.inside.given (row_of c.self.inside.kept) c.args.number none) ∙ ap (row_at g.T.Row.forgotten c.args.number) c.self.view_is)

pub returns-clause-changed : goal.returns-clause-changed
returns-clause-changed g c =
    let gone = g.T.Row.forgotten in
    let f = λ (row : g.row.T.Denot). tidied g.T.Row.over gone (g.C.Change.changes c.args.change.now row) in
    let new = c.change-answer.new.row in
    let there : row_of c.self.inside.kept c.args.number ≡ Some c.in-Some.row.now = sym c.get_mut.ensures.value ∙ ap option_copied_mut c.in-Some.is in
    rows_altered g.T.Row.over gone c.self.inside.given c.args.number (row_of c.self.inside.kept) (row_of (c.get_mut.follows.lender new)) (row_of c.forget_if.new.kept) c.in-Some.row.now new (g.C.Change.changes c.args.change.now) c.is_over-over.result there (on_some _ _ _ c.in-Some.is (c.get_mut.follows.holds new)).0 c.forget_if.ensures.rows c.change-answer.ensures.row c.is_over-over.ensures ∙ ap (at_number c.args.number f) c.self.view_is

pub returns-clause-answer : goal.returns-clause-answer
returns-clause-answer g c =
    let there : row_of c.self.inside.kept c.args.number ≡ Some c.in-Some.row.now = sym c.get_mut.ensures.value ∙ ap option_copied_mut c.in-Some.is in
    c.change-answer.ensures.answer ∙ ap (g.C.Change.answers c.args.change.now) (sym (row_kept g.T.Row.over g.T.Row.forgotten c.self.inside.given (row_of c.self.inside.kept) c.self.invariant.0.0 c.args.number c.in-Some.row.now there) ∙ ap (row_at g.T.Row.forgotten c.args.number) c.self.view_is)

pub invariant_of-self-2 : goal.invariant_of-self-2
invariant_of-self-2 g c =
    let over = g.T.Row.over in
    let rests = g.T.Row.rests in
    let inside = c.self.inside in
    let row = c.in-Some.row.now in
    let new = c.change-answer.new.row in
    let there : row_of inside.kept c.args.number ≡ Some row = sym c.get_mut.ensures.value ∙ ap option_copied_mut c.in-Some.is in
    let rewritten = on_some _ _ _ c.in-Some.is (c.get_mut.follows.holds new) in
    let mid = c.get_mut.follows.lender new in
    let fs = c.forget_if.new.kept in
    let ends = c.is_over-over.ensures in
    let still : rests row ≡ true → rests new ≡ true = λ is. ap rests c.change-answer.ensures.row ∙ g.met.C.Change.leaves_resting c.args.change.now row is in (
      keeps_changed over rests g.T.Row.forgotten inside.given c.args.number (row_of inside.kept) (row_of mid) (row_of fs) row new c.is_over-over.result there rewritten.0 c.forget_if.ensures.rows ends (g.T.Row.forgotten_is_over new) c.self.invariant.0,
      index_changed over rests g.T.Row.forgotten inside.given c.args.number (row_of inside.kept) (row_of mid) (row_of fs) row new c.is_over-over.result there rewritten.0 c.forget_if.ensures.rows ends inside.awake.entries c.rest_if.new.awake.entries c.is_resting-rests.result c.rest_if.ensures c.is_resting-rests.ensures (g.met.T.Row.over_rests new) still c.self.invariant.1,
      c.forget_if.ensures.given ∙ (rewritten.1 ∙ c.self.invariant.2),
    )
