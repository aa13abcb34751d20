use Rattle.std.proofs.Common.{◌≡◌, rules}
use Rattle.std.proofs.lemmas.List.Sorted.{IsNonDecreasingBy-from_sort_by_key, answers_always, IsPermutation-trans}
use Rattle.nats_pool.specs.Rounds.{failures}
use Rattle.nats_pool.proofs.choose.order.Goals as goal

pub returns : goal.returns
returns c = record {
  mid = c.shuffle.new.self;
  drawn = c.shuffle.ensures.drawn;
  sorted = record {
    permutation = c.in_ok-sort_by_key.ensures.permutation;
    ascending = IsNonDecreasingBy-from_sort_by_key failures _ c.in_ok-sort_by_key.ensures.sorted (λ a r q k. search rules);
    stable = c.in_ok-sort_by_key.ensures.stable failures (answers_always _ (λ a r. r ≡ failures a.0.now) _ (λ f a r q k. search rules));
  };
  permutation = IsPermutation-trans _ _ _ c.shuffle.ensures.permutation c.in_ok-sort_by_key.ensures.permutation;
}
