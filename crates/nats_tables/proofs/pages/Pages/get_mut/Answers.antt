-- The row of a slot of an older page is the row of its number.
use Rattle.std.proofs.Common.{rules, ◌≡◌, ◌/◌, ◌%◌, Some, suc, set, refl, ◌∙◌, ap, arith, ◌∷◌}
use Rattle.nats_tables.proofs.Paging.{set_same, older_row, older_rewritten}
use Rattle.nats_tables.proofs.pages.Pages.get_mut.Goals as goal

pub returns : goal.returns
returns g c =
    let i = c.in_ok-index.index in
    let inside = c.self.inside in
    let page = c.in_ok-self-inside.field-0.now in
    let older = inside.older.entries in
    let numbered : c.args.number ≡ suc i = omega (arith, c.in_ok-index.ensures) in
    let elsewhere : i / 64 ≡ inside.place → ⊥ = c.if-index-self.false in
    let there = c.in_ok-self-inside.ensures.value in
    let after = λ (w : g.row.T.Denot). c.get_mut-2.follows.lender (set page (i % 64) (Some w)) in
    rw (← c.self.view_is) (
      (
        refl,
        λ w. older_rewritten inside.place c.args.number i inside.newest page older (after w).entries numbered elsewhere there w c.get_mut-3.result ((c.get_mut-2.follows.holds (set page (i % 64) (Some w))).3 (search rules)).0 c.get_mut-3.ensures.value,
        ap (λ es. (inside.place, inside.newest) ∷ es) ((c.get_mut-2.follows.holds page).0 ∙ set_same _ older page there),
      ),
      record {
        writes_back = tt;
        value = c.get_mut-3.ensures.value ∙ older_row inside.place c.args.number i inside.newest page older older numbered elsewhere there;
      },
    )
