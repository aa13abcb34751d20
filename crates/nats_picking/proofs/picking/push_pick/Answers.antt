-- The member stands where it belongs.
use Rattle.std.proofs.Common.{ap, sym, ◌∙◌, ◌++◌, ◌∷◌, take, drop, slice_set, get_or}
use Rattle.nats_picking.specs.Picking.{better, nows, onto_pick}
use Rattle.nats_picking.proofs.Picks.{inserted, replaced, is_best, not_plain}
use Rattle.nats_picking.proofs.picking.push_pick.Goals as goal

pub returns-in_ok-insert-in-Before : goal.returns-in_ok-insert-in-Before
returns-in_ok-insert-in-Before c =
    let k = c.in-Before.k in
    let i = c.args.i in
    let same = c.as_slice.ensures.value in
    ap nows c.in_ok-insert-in-Before.ensures.items
    ∙ ap (λ xs. nows (take k xs ++ i ∷ drop k xs)) (sym same)
    ∙ inserted c.as_slice.result.now k i
    ∙ sym c.in-Before.ensures.1
    ∙ ap (λ xs. onto_pick i.now (nows xs)) same
    ∙ sym (not_plain i.now (nows c.args.all.now.items) (sym c.is_plain.ensures ∙ c.if-is_plain.false))

pub returns-in-Same : goal.returns-in-Same
returns-in-Same c =
    let k = c.in-Same.k in
    let i = c.args.i in
    let all = c.as_slice.result.now in
    let same = c.as_slice.ensures.value in
    let at = c.in-Same.ensures in
    let best = is_best all k c.index.result.now at.0 at.1 at.2 (c.index.ensures ∙ ap (λ xs. get_or xs k c.index.result.now) (sym same)) in
    ap (λ xs. nows (slice_set xs k c.better.result)) (sym same)
    ∙ replaced all k c.better.result at.0 at.1 at.2
    ∙ ap (λ new. take k (nows all) ++ new ∷ at.1) (c.better.ensures ∙ ap (better i.now) best)
    ∙ sym at.3
    ∙ ap (λ xs. onto_pick i.now (nows xs)) same
    ∙ sym (not_plain i.now (nows c.args.all.now.items) (sym c.is_plain.ensures ∙ c.if-is_plain.false))
