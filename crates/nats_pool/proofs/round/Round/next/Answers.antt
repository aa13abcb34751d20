use Rattle.std.proofs.Common.{◌≡◌, ◌∷◌, drop, sym, ◌∙◌, refl}
use Rattle.std.specs.Vec.Iter.{into_iter_items}
use Rattle.nats_pool.proofs.Dropping.{drop-next}
use Rattle.nats_pool.proofs.round.Round.next.Goals as goal

pub invariant_of-self-2 : goal.invariant_of-self-2
invariant_of-self-2 c =
    let e : drop c.self.inside.handed c.self.inside.plan.items ≡ c.in_ok-planned.planned ∷ into_iter_items c.next.new.self =
    sym c.self.invariant.0 ∙ c.in_ok-planned.ensures.cases.0 in
    let d = drop-next c.self.inside.plan.items c.self.inside.handed c.in_ok-planned.planned (into_iter_items c.next.new.self) e in
    (sym d.0, d.1)

pub returns : goal.returns
returns c =
    let e : drop c.self.inside.handed c.self.inside.plan.items ≡ c.in_ok-planned.planned ∷ into_iter_items c.next.new.self =
    sym c.self.invariant.0 ∙ c.in_ok-planned.ensures.cases.0 in
    let d = drop-next c.self.inside.plan.items c.self.inside.handed c.in_ok-planned.planned (into_iter_items c.next.new.self) e in
    rw (← c.self.view_is) (rw d.0 e, refl)
