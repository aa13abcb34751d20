-- One more place is put.
use Rattle.std.proofs.Common.{refl, ap, ◌∙◌, ◌∷◌, [], ◌++◌, ◌+◌, drop, get_or}
use Rattle.nats_interests.specs.Index.{below, merged}
use Rattle.nats_interests.proofs.Remembered.{merge_step}
use Rattle.nats_interests.proofs.index.merged.Goals as goal

pub loop-place-preserved : goal.loop-place-preserved
loop-place-preserved c =
    let some = c.args.some.now in
    let i = c.loop-place.place-index in
    let k = get_or some i 0 in
    let left = c.loop-place.left.now in
    let all = c.loop-place.all.items in
    ap (λ xs. xs ++ merged (drop (i + 1) some) c.split_at.result.1.now) (c.in_ok-push.ensures.items ∙ ap (λ xs. xs ++ k ∷ []) c.in_ok-n.ensures.all)
    ∙ ap (λ xs. all ++ below k left ++ k ∷ [] ++ merged (drop (i + 1) some) xs) (c.split_at.ensures.back ∙ c.in_ok-n.ensures.left.1)
    ∙ merge_step all some left i k c.loop-place-test.true refl
    ∙ c.loop-place.invariant
