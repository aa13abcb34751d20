-- Going through the rows that do not rest, in the order of their numbers.
use Rattle.std.proofs.Common.{◌≡◌, map, ℕ, zero, suc, ◌+◌, ◌-◌, ◌<◌, ◌≤◌, Bool, true, false, cond, List, [], ◌∷◌, drop, length, Option, Some, None, IfSome, IsSome, Less, Greater, nat_cmp, nat_lt, is_gt, unwrap_or, slice_get, BTreeMap, refl, sym, ◌∙◌, ap, subst, arith}
use Rattle.std.specs.Prelude.{⊤, if◌then◌else◌}
use Rattle.std.proofs.lemmas.Bool.{false≢true}
use Rattle.std.proofs.lemmas.List.{length-drop}
use Rattle.std.proofs.lemmas.Option.{none-some, cond_some}
use Rattle.std.specs.Cmp.{ranks, nat_cmp_is}
use Rattle.std.specs.Ordering.{MatchOrdering}
use Rattle.std.specs.BTreeMap.Range.{IsRangeOf, IsEntryInRange}
use Rattle.std.specs.declared.ops.Bound.TheVariants.{Excluded, Unbounded}
use Rattle.nats_tables.specs.Numbers.{count_from, at_index, at_number}
use Rattle.nats_tables.specs.Rows.{look, row_in, rows_in, first_awake, Tidy, Stays, KeepsOnly, Keeps, woken, Indexes}
use Rattle.nats_tables.proofs.Numbers.{same_cons}

-- ---- numbers

below : (n q : ℕ) → n < q → nat_cmp n q ≡ Less
below n q less = sym (nat_cmp_is n q Less less)

is_below : (n q : ℕ) → nat_cmp n q ≡ Less → n < q
is_below n q e = subst (λ r. MatchOrdering r (n < q) (n ≡ q) (q < n)) e (ranks n q)

above : (k q : ℕ) → q < k → is_gt (nat_cmp k q) ≡ true
above k q less = ap is_gt (sym (nat_cmp_is k q Greater less))

-- ---- rows told by their numbers

behind : {B : Type 0} (g : ℕ → B) (n first given : ℕ) → drop n (map g (count_from first given)) ≡ map g (count_from (first + n) (given - n))
behind g zero first given =
    let e : first ≡ first + 0 = omega arith in
    let d : given ≡ given - 0 = omega arith in
    ap (λ k. map g (count_from k given)) e ∙ ap (λ m. map g (count_from (first + 0) m)) d
behind g (suc n) first zero = let d : 0 ≡ 0 - suc n = omega arith in ap (λ m. map g (count_from (first + suc n) m)) d
behind g (suc n) first (suc given) =
    let e : suc first + n ≡ first + suc n = omega arith in
    let d : given - n ≡ suc given - suc n = omega arith in
    behind g n (suc first) given
    ∙ (ap (λ k. map g (count_from k (given - n))) e ∙ ap (λ m. map g (count_from (first + suc n) m)) d)

all_rest : {A : Type 0} (rests : A → Bool) (g : ℕ → A) (s m : ℕ) → ((q : ℕ) → s ≤ q → q < s + m → rests (g q) ≡ true) → first_awake rests s (map g (count_from s m)) ≡ None
all_rest rests g s zero all = refl
all_rest rests g s (suc m) all =
    ap (λ b. cond b (first_awake rests (suc s) (map g (count_from (suc s) m))) (Some s)) (all s (omega arith) (omega arith))
    ∙ all_rest rests g (suc s) m (λ q low high. all q (omega arith) (omega arith))

one_awake : {A : Type 0} (rests : A → Bool) (g : ℕ → A) (s m k : ℕ) → s ≤ k → k < s + m → rests (g k) ≡ false → ((q : ℕ) → s ≤ q → q < k → rests (g q) ≡ true)
    → first_awake rests s (map g (count_from s m)) ≡ Some k
one_awake rests g s zero k low high wakes all = absurd (omega arith)
one_awake rests g s (suc m) k low high wakes all =
    by (nat_lt s k) refl (λ past. one_awake rests g (suc s) m k past (omega arith) wakes (λ q low high. all q (omega arith) high))
  where
    rest : Option ℕ
    rest = first_awake rests (suc s) (map g (count_from (suc s) m))

    by : (b : Bool) → nat_lt s k ≡ b → (s < k → rest ≡ Some k) → cond (rests (g s)) rest (Some s) ≡ Some k
    by true less next =
        let past : s < k = grind (less, arith) in
        ap (λ b. cond b rest (Some s)) (all s (omega arith) past) ∙ next past
    by false less next =
        let same : s ≡ k = grind (less, low, arith) in
        ap (λ b. cond b rest (Some s)) (ap (λ q. rests (g q)) same ∙ wakes) ∙ ap Some same

-- ---- what a table keeps

abbrev pub unless : Bool → Option ⊤
unless rest = if rest then None else Some tt

quiet_rests : (b : Bool) → unless b ≡ None → b ≡ true
quiet_rests true quiet = refl
quiet_rests false quiet = absurd (none-some tt (sym quiet))

loud_wakes : (b : Bool) (u : ⊤) → unless b ≡ Some u → b ≡ false
loud_wakes true u loud = absurd (none-some u loud)
loud_wakes false u loud = refl

module _ {A : Type 0} (overs rests : A → Bool) (gone : A) (given : ℕ) (es : ℕ → Option A) (ws : List (ℕ × ⊤)) (over_rests : (row : A) → overs row ≡ true → rests row ≡ true)
    (keeps : Keeps overs gone given es) (index : Indexes rests es ws) where
  missing_rests : (q : ℕ) → 0 < q → q ≤ given → look q ws ≡ None → rests (row_in gone es q) ≡ true
  missing_rests q low high none = by (es q) refl (sym (index q) ∙ none)
    where
      by : (o : Option A) → es q ≡ o → woken rests (es q) ≡ None → rests (row_in gone es q) ≡ true
      by None is quiet = ap (λ o. rests (unwrap_or o gone)) is ∙ over_rests gone (keeps.1 q low high is)
      by (Some row) is quiet = ap (λ o. rests (unwrap_or o gone)) is ∙ quiet_rests (rests row) (sym (ap (woken rests) is) ∙ quiet)

  awake_stays : (k : ℕ) (u : ⊤) → look k ws ≡ Some u → (k ≤ given) × (rests (row_in gone es k) ≡ false)
  awake_stays k u there = by (es k) refl (keeps.0 k) (sym (index k) ∙ there)
    where
      by : (o : Option A) → es k ≡ o → IfSome o (Stays overs given k) → woken rests (es k) ≡ Some u → (k ≤ given) × (rests (row_in gone es k) ≡ false)
      by None is stays loud = absurd (none-some u (sym (ap (woken rests) is) ∙ loud))
      by (Some row) is stays loud =
          (stays.1, ap (λ o. rests (unwrap_or o gone)) is ∙ loud_wakes (rests row) u (sym (ap (woken rests) is) ∙ loud))

  -- none above n is awake
  none_awake : (n : ℕ) → ((q : ℕ) → n < q → look q ws ≡ None) → first_awake rests (suc n) (drop n (rows_in gone given es)) ≡ None
  none_awake n none =
      let e : 1 + n ≡ suc n = omega arith in
      ap (first_awake rests (suc n)) (behind (row_in gone es) n 1 given ∙ ap (λ k. map (row_in gone es) (count_from k (given - n))) e)
      ∙ all_rest rests (row_in gone es) (suc n) (given - n) (λ q low high. missing_rests q (omega arith) (omega arith) (none q (omega arith)))

  -- this is the least above n that is awake
  least_awake : (n k : ℕ) (u : ⊤) → look k ws ≡ Some u → n < k → ((q : ℕ) → n < q → q < k → look q ws ≡ None)
      → first_awake rests (suc n) (drop n (rows_in gone given es)) ≡ Some k
  least_awake n k u is past none =
      let e : 1 + n ≡ suc n = omega arith in
      let stays = awake_stays k u is in
      ap (first_awake rests (suc n)) (behind (row_in gone es) n 1 given ∙ ap (λ j. map (row_in gone es) (count_from j (given - n))) e)
      ∙ one_awake rests (row_in gone es) (suc n) (given - n) k past (omega (arith, stays.0, past)) stays.1
      (λ q low high. missing_rests q (omega arith) (omega (arith, stays.0, high)) (none q low high))

module _ {A : Type 0} (overs : A → Bool) (gone : A) (given : ℕ) (es : ℕ → Option A) where
  pub tidy_rows : KeepsOnly overs given es → Tidy overs gone (rows_in gone given es)
  tidy_rows keeps = each 1 given
    where
      at_one : (q : ℕ) (o : Option A) → es q ≡ o → IfSome o (Stays overs given q) → overs (unwrap_or o gone) ≡ true → unwrap_or o gone ≡ gone
      at_one q None is stays over = refl
      at_one q (Some row) is stays over = absurd (false≢true (sym stays.2 ∙ over))

      each : (s m : ℕ) → Tidy overs gone (map (row_in gone es) (count_from s m))
      each s zero = tt
      each s (suc m) = (at_one s (es s) refl (keeps s), each (suc s) m)

-- ---- a range of the map

none_below : {A : Type 0} (k q : ℕ) (o : Option A) → q < k → (IsSome o → is_gt (nat_cmp k q) ≡ false) → o ≡ None
none_below k q None less none = refl
none_below k q (Some row) less none = absurd (false≢true (sym (none refl) ∙ above k q less))

module _ {A : Type 0} (overs rests : A → Bool) (gone : A) (given n : ℕ) (es : ℕ → Option A) (m : BTreeMap ℕ ⊤) (r : List (ℕ × ⊤)) (over_rests : (row : A) → overs row ≡ true → rests row ≡ true)
    (keeps : Keeps overs gone given es) (index : Indexes rests es m.entries) (range : IsRangeOf nat_cmp (Excluded n) Unbounded m r) where
  pub next_none : r ≡ [] → None ≡ first_awake rests (suc n) (drop n (rows_in gone given es))
  next_none is =
      sym (none_awake overs rests gone given es m.entries over_rests keeps index n (λ q past. range.5 is q (below n q past, tt)))

  pub next_some : (e : ℕ × ⊤) (t : List (ℕ × ⊤)) → r ≡ e ∷ t → Some e.0 ≡ first_awake rests (suc n) (drop n (rows_in gone given es))
  next_some e t is =
      let first = ap (λ xs. slice_get xs 0) is in
      let here : IsEntryInRange nat_cmp (Excluded n) Unbounded m e = subst (λ o. IfSome o (IsEntryInRange nat_cmp (Excluded n) Unbounded m)) first range.1 in
      let least : (q : ℕ) → n < q → IsSome (look q m.entries) → is_gt (nat_cmp e.0 q) ≡ false = λ q past some. subst (λ o. IfSome o (λ x. is_gt (nat_cmp x.0 q) ≡ false)) first (range.2 q (below n q past, tt) some) in
      sym (least_awake overs rests gone given es m.entries over_rests keeps index n e.0 e.1 here.1 (is_below n e.0 here.0.0) (λ q past less. none_below e.0 q (look q m.entries) less (least q past)))

-- ---- a loop over the rows that do not rest

pub same_some : {A : Type 0} (x y : A) → Some x ≡ Some y → x ≡ y
same_some x y is = (cond_some true x y is).1

pub awake_low : {A : Type 0} (rests : A → Bool) (s k : ℕ) (xs : List A) → first_awake rests s xs ≡ Some k → s ≤ k
awake_low rests s k [] is = absurd (none-some k is)
awake_low rests s k (x ∷ xs) is = by (rests x) is (awake_low rests (suc s) k xs)
  where
    by : (b : Bool) → cond b (first_awake rests (suc s) xs) (Some s) ≡ Some k → (first_awake rests (suc s) xs ≡ Some k → suc s ≤ k) → s ≤ k
    by true is more = omega (arith, more is)
    by false is more = omega (arith, same_some s k is)

awake_high : {A : Type 0} (rests : A → Bool) (s k : ℕ) (xs : List A) → first_awake rests s xs ≡ Some k → k < s + length xs
awake_high rests s k [] is = absurd (none-some k is)
awake_high rests s k (x ∷ xs) is = by (rests x) is (awake_high rests (suc s) k xs)
  where
    by : (b : Bool) → cond b (first_awake rests (suc s) xs) (Some s) ≡ Some k → (first_awake rests (suc s) xs ≡ Some k → k < suc s + length xs) → k < s + length (x ∷ xs)
    by true is more = omega (arith, more is)
    by false is more = omega (arith, same_some s k is)

-- the next one is above, and was given
next_above : {A : Type 0} (rests : A → Bool) (n k : ℕ) (xs : List A) → first_awake rests (suc n) (drop n xs) ≡ Some k → (n < k) × (k ≤ length xs)
next_above rests n k xs is =
    let low = awake_low rests (suc n) k (drop n xs) is in
    let high = awake_high rests (suc n) k (drop n xs) is in
    (low, by (length (drop n xs)) (length-drop n xs) low high)
  where
    by : (m : ℕ) → m ≡ length xs - n → suc n ≤ k → k < suc n + m → k ≤ length xs
    by m e low high = omega (arith, e, low, high)

-- so fewer are left behind it
pub fewer_left : {A B : Type 0} (rests : A → Bool) (n k : ℕ) (xs : List A) (ys : List B) → length ys ≡ length xs → first_awake rests (suc n) (drop n xs) ≡ Some k → length ys - k < length xs - n
fewer_left rests n k xs ys same is =
    let next = next_above rests n k xs is in
    omega (arith, same, next.0, next.1)

-- the first so many are as they are, and the others are changed
abbrev pub rest_changed : {A : Type 0} → ℕ → (A → A) → List A → List A
rest_changed zero f xs = map f xs
rest_changed (suc n) f [] = []
rest_changed (suc n) f (x ∷ xs) = x ∷ rest_changed n f xs

module _ {A : Type 0} (overs rests : A → Bool) (gone : A) (f : A → A) (still : (x : A) → rests x ≡ true → (overs x ≡ true → x ≡ gone) → f x ≡ x) where
  first_step : (s d k : ℕ) (xs : List A) → k ≡ s + d → Tidy overs gone xs → first_awake rests s xs ≡ Some k → map f xs ≡ rest_changed (suc d) f (at_index d f xs)
  first_step s d k [] e tidy is = absurd (none-some k is)
  first_step s zero k (x ∷ xs) e tidy is = by (rests x) is (awake_low rests (suc s) k xs)
    where
      by : (b : Bool) → cond b (first_awake rests (suc s) xs) (Some s) ≡ Some k → (first_awake rests (suc s) xs ≡ Some k → suc s ≤ k) → map f (x ∷ xs) ≡ f x ∷ map f xs
      by true is low = absurd (omega (arith, low is, e))
      by false is low = refl
  first_step s (suc d) k (x ∷ xs) e tidy is = by (rests x) refl is (first_step (suc s) d k xs (omega (arith, e)) tidy.1)
    where
      by : (b : Bool) → rests x ≡ b → cond b (first_awake rests (suc s) xs) (Some s) ≡ Some k
          → (first_awake rests (suc s) xs ≡ Some k → map f xs ≡ rest_changed (suc d) f (at_index d f xs)) → f x ∷ map f xs ≡ x ∷ rest_changed (suc d) f (at_index d f xs)
      by true rest is more = same_cons (f x) x _ _ (still x rest tidy.0) (more is)
      by false rest is more = absurd (omega (arith, same_some s k is, e))

  step_behind : (n s d i k : ℕ) (xs : List A) → i ≡ n + d → k ≡ s + d → Tidy overs gone xs → first_awake rests s (drop n xs) ≡ Some k
      → rest_changed n f xs ≡ rest_changed (suc i) f (at_index i f xs)
  step_behind zero s d i k xs a b tidy is =
      let e : d ≡ i = omega (arith, a) in
      first_step s d k xs b tidy is ∙ ap (λ j. rest_changed (suc j) f (at_index j f xs)) e
  step_behind (suc n) s d i k [] a b tidy is = absurd (none-some k is)
  step_behind (suc n) s d zero k (x ∷ xs) a b tidy is = absurd (omega (arith, a))
  step_behind (suc n) s d (suc i) k (x ∷ xs) a b tidy is = ap (λ ys. x ∷ ys) (step_behind n s d i k xs (omega (arith, a)) b tidy.1 is)

  -- the next one is changed, and those that are passed over need no change
  pub next_changed : (n k : ℕ) (xs : List A) → Tidy overs gone xs → first_awake rests (suc n) (drop n xs) ≡ Some k → rest_changed n f xs ≡ rest_changed k f (at_number k f xs)
  next_changed n zero xs tidy is = absurd (omega (arith, awake_low rests (suc n) zero (drop n xs) is))
  next_changed n (suc i) xs tidy is =
      let low = awake_low rests (suc n) (suc i) (drop n xs) is in
      step_behind n (suc n) (i - n) i (suc i) xs (omega (arith, low)) (omega (arith, low)) tidy is

  none_first : (s : ℕ) (xs : List A) → Tidy overs gone xs → first_awake rests s xs ≡ None → map f xs ≡ xs
  none_first s [] tidy is = refl
  none_first s (x ∷ xs) tidy is = by (rests x) refl is (none_first (suc s) xs tidy.1)
    where
      by : (b : Bool) → rests x ≡ b → cond b (first_awake rests (suc s) xs) (Some s) ≡ None → (first_awake rests (suc s) xs ≡ None → map f xs ≡ xs) → f x ∷ map f xs ≡ x ∷ xs
      by true rest is more = same_cons (f x) x _ _ (still x rest tidy.0) (more is)
      by false rest is more = absurd (none-some s (sym is))

  -- none is left to change
  pub none_changed : (s n : ℕ) (xs : List A) → Tidy overs gone xs → first_awake rests s (drop n xs) ≡ None → rest_changed n f xs ≡ xs
  none_changed s zero xs tidy is = none_first s xs tidy is
  none_changed s (suc n) [] tidy is = refl
  none_changed s (suc n) (x ∷ xs) tidy is = ap (λ ys. x ∷ ys) (none_changed s n xs tidy.1 is)
