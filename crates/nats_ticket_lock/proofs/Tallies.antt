-- Each number is in the list of one.
use Rattle.std.proofs.Common.{◌≡◌, ◌≢◌, ◌⊎◌, ℕ, zero, suc, ◌+◌, ◌-◌, ◌<◌, ◌≤◌, List, [], ◌∷◌, ◌++◌, length, set, refl, sym, ap, ◌∙◌, subst, inl, inr, arith}
use mathlib.Core.Option.{some, some-ne-none, some-injective}
use lib.ListN.{get_elem?}
use native.Mathlib.Decide.{ℕ_discrete}
use Rattle.nats_ticket_lock.specs.Tally.{same, count_in, tally, total, Spread}

pub count_append : (n : ℕ) (xs ys : List ℕ) → count_in n (xs ++ ys) ≡ count_in n xs + count_in n ys
count_append n [] ys = omega arith
count_append n (x ∷ xs) ys = let e = count_append n xs ys in omega (arith, e)

count_short : (n : ℕ) (xs : List ℕ) → count_in n xs ≤ length xs
count_short n [] = omega arith
count_short n (x ∷ xs) = let k = count_short n xs in omega (arith, k)

lt_of : (m n : ℕ) → m ≤ n → (m ≡ n → ⊥) → m < n
lt_of m n le ne = elim (ℕ_discrete m n) [ yes e ↦ absurd (ne e) | no x ↦ omega (arith, le, x) ]

module _ {V : Type 0} (f : V → List ℕ) where
  pub tally_set : (n : ℕ) (l : List V) (i : ℕ) (v w : V) → get_elem? l i ≡ some v → tally f n (set l i w) + count_in n (f v) ≡ tally f n l + count_in n (f w)
  tally_set n [] i v w e = absurd (some-ne-none v (sym e))
  tally_set n (x ∷ xs) zero v w e = let same_view : x ≡ v = some-injective x v e in let k = ap (λ (u : V). count_in n (f u)) same_view in omega (arith, k)
  tally_set n (x ∷ xs) (suc i) v w e = let k = tally_set n xs i v w e in omega (arith, k)

  pub total_set : (l : List V) (i : ℕ) (v w : V) → get_elem? l i ≡ some v → total f (set l i w) + length (f v) ≡ total f l + length (f w)
  total_set [] i v w e = absurd (some-ne-none v (sym e))
  total_set (x ∷ xs) zero v w e = let same_view : x ≡ v = some-injective x v e in let k = ap (λ (u : V). length (f u)) same_view in omega (arith, k)
  total_set (x ∷ xs) (suc i) v w e = let k = total_set xs i v w e in omega (arith, k)

  pub tally_snoc : (n : ℕ) (l : List V) (w : V) → tally f n (l ++ w ∷ []) ≡ tally f n l + count_in n (f w)
  tally_snoc n [] w = omega arith
  tally_snoc n (x ∷ xs) w = let k = tally_snoc n xs w in omega (arith, k)

  pub total_snoc : (l : List V) (w : V) → total f (l ++ w ∷ []) ≡ total f l + length (f w)
  total_snoc [] w = omega arith
  total_snoc (x ∷ xs) w = let k = total_snoc xs w in omega (arith, k)

  pub tally_at : (n : ℕ) (l : List V) (i : ℕ) (v : V) → get_elem? l i ≡ some v → count_in n (f v) ≤ tally f n l
  tally_at n [] i v e = absurd (some-ne-none v (sym e))
  tally_at n (x ∷ xs) zero v e = let k = ap (λ (u : V). count_in n (f u)) (some-injective x v e) in omega (arith, k)
  tally_at n (x ∷ xs) (suc i) v e = let k = tally_at n xs i v e in omega (arith, k)

  pub tally_two : (n : ℕ) (l : List V) (i j : ℕ) (v w : V) → i ≢ j → get_elem? l i ≡ some v → get_elem? l j ≡ some w → count_in n (f v) + count_in n (f w) ≤ tally f n l
  tally_two n [] i j v w ne e e' = absurd (some-ne-none v (sym e))
  tally_two n (x ∷ xs) zero zero v w ne e e' = absurd (ne refl)
  tally_two n (x ∷ xs) zero (suc j) v w ne e e' = let k = ap (λ (u : V). count_in n (f u)) (some-injective x v e) in let m = tally_at n xs j w e' in omega (arith, k, m)
  tally_two n (x ∷ xs) (suc i) zero v w ne e e' = let k = ap (λ (u : V). count_in n (f u)) (some-injective x w e') in let m = tally_at n xs i v e in omega (arith, k, m)
  tally_two n (x ∷ xs) (suc i) (suc j) v w ne e e' = let m = tally_two n xs i j v w (λ s. ne (ap suc s)) e e' in omega (arith, m)

  -- the list of one is the same
  pub spread_same : (l : List V) (i : ℕ) (v w : V) (lo hi : ℕ) → get_elem? l i ≡ some v → f w ≡ f v → Spread f l lo hi → Spread f (set l i w) lo hi
  spread_same l i v w lo hi e s h = (
    (λ n. let k = tally_set n l i v w e in let m = ap (count_in n) s in let b = h.0 n in omega (arith, k, m, b)),
    let k = total_set l i v w e in let m : length (f w) ≡ length (f v) = ap length s in let b = h.1 in omega (arith, k, m, b),
  )

  pub spread_blank : (l : List V) (w : V) (lo hi : ℕ) → f w ≡ [] → Spread f l lo hi → Spread f (l ++ w ∷ []) lo hi
  spread_blank l w lo hi s h = (
    (λ n. let k = tally_snoc n l w in let m = ap (count_in n) s in let b = h.0 n in omega (arith, k, m, b)),
    let k = total_snoc l w in let m : length (f w) ≡ zero = ap length s in let b = h.1 in omega (arith, k, m, b),
  )

  -- one more, at the end
  pub spread_more : (l : List V) (i : ℕ) (v w : V) (lo hi : ℕ) → get_elem? l i ≡ some v → f w ≡ hi ∷ f v → Spread f l lo hi → Spread f (set l i w) lo (suc hi)
  spread_more l i v w lo hi e s h = (
    (λ n. let k = tally_set n l i v w e in let m : count_in n (f w) ≡ same n hi + count_in n (f v) = ap (count_in n) s in let b = h.0 n in let c = h.1 in omega (arith, k, m, b, c)),
    let k = total_set l i v w e in let m : length (f w) ≡ suc (length (f v)) = ap length s in let b = h.1 in omega (arith, k, m, b),
  )

  -- one less, at the start
  pub spread_less : (l : List V) (i : ℕ) (v w : V) (lo hi : ℕ) → get_elem? l i ≡ some v → f v ≡ lo ∷ f w → Spread f l lo hi → Spread f (set l i w) (suc lo) hi
  spread_less l i v w lo hi e s h = (
    (λ n. let k = tally_set n l i v w e in let m : count_in n (f v) ≡ same n lo + count_in n (f w) = ap (count_in n) s in let b = h.0 n in let c = h.1 in let d = tally_at n l i v e in
        let t = total_set l i v w e in let q : length (f v) ≡ suc (length (f w)) = ap length s in omega (arith, k, m, b, c, d, t, q)),
    let k = total_set l i v w e in let m : length (f v) ≡ suc (length (f w)) = ap length s in let b = h.1 in omega (arith, k, m, b),
  )

  -- the lists of two are put together
  pub spread_join : (l : List V) (i j : ℕ) (v w x y : V) (lo hi : ℕ) → get_elem? l i ≡ some v → get_elem? (set l i x) j ≡ some w → f x ≡ f v ++ f w → f y ≡ [] → Spread f l lo hi → Spread f (set (set l i x) j y) lo hi
  spread_join l i j v w x y lo hi e e' s s' h = (
    (λ n. let k = tally_set n l i v x e in let k' = tally_set n (set l i x) j w y e' in let m = ap (count_in n) s ∙ count_append n (f v) (f w) in let m' = ap (count_in n) s' in let b = h.0 n in omega (arith, k, k', m, m', b)),
    let k = total_set l i v x e in let k' = total_set (set l i x) j w y e' in let m : length (f x) ≡ length (f v ++ f w) = ap length s in let m' : length (f y) ≡ zero = ap length s' in let b = h.1 in
        let q = Rattle.std.proofs.Common.length-append (f v) (f w) in omega (arith, k, k', m, m', b, q),
  )

  -- a number that is spread is in range, and in one list alone
  pub spread_range : (l : List V) (i : ℕ) (v : V) (lo hi n : ℕ) → get_elem? l i ≡ some v → 0 < count_in n (f v) → Spread f l lo hi → (lo ≤ n) × (n < hi)
  spread_range l i v lo hi n e p h = let b = h.0 n in let c = h.1 in let d = tally_at n l i v e in (omega (arith, b, c, d, p), omega (arith, b, c, d, p))

  pub spread_apart : (l : List V) (i j : ℕ) (v w : V) (lo hi n : ℕ) → i ≢ j → get_elem? l i ≡ some v → get_elem? l j ≡ some w → 0 < count_in n (f v) → Spread f l lo hi → count_in n (f w) ≡ 0
  spread_apart l i j v w lo hi n ne e e' p h = let b = h.0 n in let c = h.1 in let d = tally_two n l i j v w ne e e' in omega (arith, b, c, d, p)

  pub total_at : (l : List V) (i : ℕ) (v : V) → get_elem? l i ≡ some v → length (f v) ≤ total f l
  total_at [] i v e = absurd (some-ne-none v (sym e))
  total_at (x ∷ xs) zero v e = let k = ap (λ (u : V). length (f u)) (some-injective x v e) in omega (arith, k)
  total_at (x ∷ xs) (suc i) v e = let k = total_at xs i v e in omega (arith, k)

  tally_total : (n : ℕ) (l : List V) → tally f n l ≤ total f l
  tally_total n [] = omega arith
  tally_total n (x ∷ xs) = let k = tally_total n xs in let c = count_short n (f x) in omega (arith, k, c)

  tally_rest : (n : ℕ) (l : List V) (i : ℕ) (v : V) → get_elem? l i ≡ some v → tally f n l + length (f v) ≤ count_in n (f v) + total f l
  tally_rest n [] i v e = absurd (some-ne-none v (sym e))
  tally_rest n (x ∷ xs) zero v e = let k = ap (λ (u : V). length (f u)) (some-injective x v e) in let c = ap (λ (u : V). count_in n (f u)) (some-injective x v e) in let t = tally_total n xs in omega (arith, k, c, t)
  tally_rest n (x ∷ xs) (suc i) v e = let k = tally_rest n xs i v e in let c = count_short n (f x) in omega (arith, k, c)

  -- where one list has as many as there are, it has each
  pub spread_full : (l : List V) (i : ℕ) (v : V) (hi : ℕ) → get_elem? l i ≡ some v → Spread f l 1 hi → length (f v) + 1 ≡ hi → (n : ℕ) → 0 < n → n < hi → count_in n (f v) ≡ 1
  spread_full l i v hi e h full n lo lt = let b = h.0 n in let c = h.1 in let d = tally_at n l i v e in let r = tally_rest n l i v e in omega (arith, b, c, d, r, full, lo, lt)

  first_of_some : (l : List V) → 0 < total f l → (j : ℕ) × (w : V) × (n : ℕ) × (get_elem? l j ≡ some w) × (0 < count_in n (f w))
  first_of_some [] h = absurd (omega (arith, h))
  first_of_some (x ∷ xs) h = by_list (f x) refl (λ q. first_of_some xs q)
    where
      by_list : (ns : List ℕ) → f x ≡ ns → (0 < total f xs → (j : ℕ) × (w : V) × (n : ℕ) × (get_elem? xs j ≡ some w) × (0 < count_in n (f w))) → (j : ℕ) × (w : V) × (n : ℕ) × (get_elem? (x ∷ xs) j ≡ some w) × (0 < count_in n (f w))
      by_list [] e rec = let k : length (f x) ≡ 0 = ap length e in let r = rec (omega (arith, h, k)) in (suc r.0, r.1, r.2, r.3, r.4)
      by_list (n ∷ ns) e rec = let k : count_in n (f x) ≡ same n n + count_in n ns = ap (count_in n) e in (0, x, n, refl, omega (arith, k))

  another : (l : List V) (i : ℕ) (v : V) → get_elem? l i ≡ some v → length (f v) < total f l → (j : ℕ) × (w : V) × (n : ℕ) × (j ≢ i) × (get_elem? l j ≡ some w) × (0 < count_in n (f w))
  another [] i v e h = absurd (some-ne-none v (sym e))
  another (x ∷ xs) zero v e h =
      let k = ap (λ (u : V). length (f u)) (some-injective x v e) in let r = first_of_some xs (omega (arith, h, k)) in
      (suc r.0, r.1, r.2, (λ (q : suc r.0 ≡ zero). omega (arith, q)), r.3, r.4)
  another (x ∷ xs) (suc i) v e h = by_list (f x) refl (λ q. another xs i v e q)
    where
      by_list : (ns : List ℕ) → f x ≡ ns → (length (f v) < total f xs → (j : ℕ) × (w : V) × (n : ℕ) × (j ≢ i) × (get_elem? xs j ≡ some w) × (0 < count_in n (f w))) → (j : ℕ) × (w : V) × (n : ℕ) × (j ≢ suc i) × (get_elem? (x ∷ xs) j ≡ some w) × (0 < count_in n (f w))
      by_list [] s rec = let k : length (f x) ≡ 0 = ap length s in let r = rec (omega (arith, h, k)) in (suc r.0, r.1, r.2, (λ q. r.3 (omega (arith, q))), r.4, r.5)
      by_list (n ∷ ns) s rec = let k : count_in n (f x) ≡ same n n + count_in n ns = ap (count_in n) s in (0, x, n, (λ (q : zero ≡ suc i). omega (arith, q)), refl, omega (arith, k))

  -- and where it has fewer, one is missing
  pub spread_lacks : (l : List V) (i : ℕ) (v : V) (hi : ℕ) → get_elem? l i ≡ some v → Spread f l 1 hi → (length (f v) + 1 ≡ hi → ⊥) → (n : ℕ) × (0 < n) × (n < hi) × (count_in n (f v) ≡ 0)
  spread_lacks l i v hi e h ne =
      let t = total_at l i v e in let c = h.1 in
      let lt : length (f v) < total f l = lt_of (length (f v)) (total f l) t (λ q. ne (omega (arith, q, c))) in
      let r = another l i v e lt in
      let g = spread_range l r.0 r.1 1 hi r.2 r.4 r.5 h in
      (r.2, omega (arith, g), g.1, spread_apart l r.0 i r.1 v 1 hi r.2 r.3 r.4 e r.5 h)
