-- The rows that a table shows, after what is kept of one number changed.
use Rattle.std.proofs.Common.{◌≡◌, map, ℕ, zero, suc, ◌<◌, ◌≤◌, Bool, true, false, cond, ◌&&◌, List, [], ◌∷◌, ◌++◌, length, Option, Some, None, IfSome, Less, Equal, Greater, nat_cmp, nat_lt, ◌==◌, unwrap_or, refl, sym, ◌∙◌, ap, subst, arith, ◌⊎◌, inl, inr}
use Rattle.std.specs.BTreeMap.{is_at}
use Rattle.std.specs.Ordering.{is_eq}
use Rattle.std.proofs.lemmas.Bool.{ne_eqb, eq-eqb}
use Rattle.std.proofs.lemmas.List.{length-map}
use Rattle.nats_tables.specs.Numbers.{count_from, at_number, item_of}
use Rattle.nats_tables.specs.Rows.{ChangedAt, ChangedIf, row_in, rows_in, tidied, row_at, kept_row, Stays, KeepsOnly, KeepsAll, Keeps}
use Rattle.nats_tables.proofs.Numbers.{length-count_from, same_up_to, changed_at, one_more, item_there, item_missing, at_index_past}

-- ---- keys

abbrev compared : (less same : Bool) → Bool
compared less same = is_eq (cond less Less (cond same Equal Greater))

below_itself : (a b : ℕ) (less : Bool) → nat_lt a b ≡ less → a ≡ b → less ≡ false
below_itself a b true is e = absurd (grind (is, e, arith))
below_itself a b false is e = refl

pub at_same : (a b : ℕ) → a ≡ b → is_at (nat_cmp a) b ≡ true
at_same a b e = ap (λ l. compared l (a == b)) (below_itself a b (nat_lt a b) refl e) ∙ ap (compared false) (eq-eqb a b e)

never_equal : (less : Bool) → compared less false ≡ false
never_equal true = refl
never_equal false = refl

pub at_apart : (a b : ℕ) → (a ≡ b → ⊥) → is_at (nat_cmp a) b ≡ false
at_apart a b apart = ap (compared (nat_lt a b)) (ne_eqb a b apart) ∙ never_equal (nat_lt a b)

-- ---- one number

module _ {A : Type 0} (gone : A) (given k : ℕ) (es fs : ℕ → Option A) where
  pub rows_updated : (w : Option A) (f : A → A) → ChangedAt k w es fs → unwrap_or w gone ≡ f (row_in gone es k)
      → rows_in gone given fs ≡ at_number k f (rows_in gone given es)
  rows_updated w f updated is =
      let shown = λ (o : Option A). unwrap_or o gone in
      let here : row_in gone fs k ≡ f (row_in gone es k) = ap shown (updated k ∙ ap (λ b. cond b w (es k)) (at_same k k refl)) ∙ is in
      changed_at f (row_in gone es) (row_in gone fs) given k here (λ s apart. ap shown (updated s ∙ ap (λ b. cond b w (es s)) (at_apart k s (λ e. apart (sym e)))))

  pub rows_more : (next : ℕ) (row : A) → next ≡ suc given → ChangedAt next (Some row) es fs → rows_in gone next fs ≡ rows_in gone given es ++ row ∷ []
  rows_more next row is updated =
      let shown = λ (o : Option A). unwrap_or o gone in
      let updated' : ChangedAt (suc given) (Some row) es fs = subst (λ n. ChangedAt n (Some row) es fs) is updated in
      let here : row_in gone fs (suc given) ≡ row = ap shown (updated' (suc given) ∙ ap (λ b. cond b (Some row) (es (suc given))) (at_same (suc given) (suc given) refl)) in
      let others : map (row_in gone fs) (count_from 1 given) ≡ rows_in gone given es = same_up_to (row_in gone fs) (row_in gone es) given (λ s low high. ap shown (updated' s ∙ ap (λ b. cond b (Some row) (es s)) (at_apart (suc given) s (λ e. omega arith)))) in
      ap (λ n. rows_in gone n fs) is ∙ (one_more (row_in gone fs) given row here ∙ ap (λ rows. rows ++ row ∷ []) others)

number_cases : (given k : ℕ) → ((0 < k) × (k ≤ given)) ⊎ ((k ≡ 0) ⊎ (given < k))
number_cases given zero = inr (inl refl)
number_cases given (suc i) = split (nat_lt given (suc i)) refl
  where
    split : (b : Bool) → nat_lt given (suc i) ≡ b → ((0 < suc i) × (suc i ≤ given)) ⊎ ((suc i ≡ 0) ⊎ (given < suc i))
    split true past = inr (inr (grind (past, arith)))
    split false low = inl (omega arith, grind (low, arith))

pub length-rows : {A : Type 0} (gone : A) (given : ℕ) (es : ℕ → Option A) → length (rows_in gone given es) ≡ given
length-rows gone given es = length-map (count_from 1 given) (row_in gone es) ∙ length-count_from 1 given

at_number_past : {A : Type 0} (k : ℕ) (f : A → A) (xs : List A) → (k ≡ 0) ⊎ (length xs < k) → at_number k f xs ≡ xs
at_number_past k f xs (inl z) = ap (λ n. at_number n f xs) z
at_number_past zero f xs (inr past) = refl
at_number_past (suc i) f xs (inr past) = at_index_past i f xs (omega arith)

-- what is not kept stays so
pub rows_missing : {A : Type 0} (overs : A → Bool) (gone : A) (given k : ℕ) (es : ℕ → Option A) (f : A → A) → KeepsAll overs gone given es → es k ≡ None → (overs gone ≡ true → f gone ≡ gone)
    → rows_in gone given es ≡ at_number k f (rows_in gone given es)
rows_missing overs gone given k es f all none still = by (number_cases given k)
  where
    by : ((0 < k) × (k ≤ given)) ⊎ ((k ≡ 0) ⊎ (given < k)) → rows_in gone given es ≡ at_number k f (rows_in gone given es)
    by (inl low) =
        let is : row_in gone es k ≡ gone = ap (λ o. unwrap_or o gone) none in
        let same : f gone ≡ gone = still (all k low.0 low.1 none) in
        changed_at f (row_in gone es) (row_in gone es) given k (is ∙ (sym same ∙ ap f (sym is))) (λ s apart. refl)
    by (inr (inl z)) = sym (at_number_past k f (rows_in gone given es) (inl z))
    by (inr (inr past)) = sym (at_number_past k f (rows_in gone given es) (inr (subst (λ n. n < k) (sym (length-rows gone given es)) past)))

pub changed_or_forgotten : {A : Type 0} (over here : Bool) (new : A) (mid old : Option A) → mid ≡ cond here (Some new) old
    → cond (over && here) None mid ≡ cond here (cond over None (Some new)) old
changed_or_forgotten true true new mid old is = refl
changed_or_forgotten true false new mid old is = is
changed_or_forgotten false true new mid old is = is
changed_or_forgotten false false new mid old is = is

shown_tidied : {A : Type 0} (overs : A → Bool) (gone row : A) (over : Bool) → overs row ≡ over → unwrap_or (cond over None (Some row)) gone ≡ tidied overs gone row
shown_tidied overs gone row true is = sym (ap (λ b. cond b gone row) is)
shown_tidied overs gone row false is = sym (ap (λ b. cond b gone row) is)

-- one that is kept was changed, and forgotten where it is over then
pub rows_altered : {A : Type 0} (overs : A → Bool) (gone : A) (given k : ℕ) (es mid fs : ℕ → Option A) (row new : A) (g : A → A) (over : Bool)
    → es k ≡ Some row → ChangedAt k (Some new) es mid → ChangedIf over k None mid fs → new ≡ g row → over ≡ overs new
    → rows_in gone given fs ≡ at_number k (λ r. tidied overs gone (g r)) (rows_in gone given es)
rows_altered overs gone given k es mid fs row new g over there changed forgot is ends =
    let updated : ChangedAt k (cond over None (Some new)) es fs = λ q. forgot q ∙ changed_or_forgotten over (is_at (nat_cmp k) q) new (mid q) (es q) (changed q) in
    let was : row_in gone es k ≡ row = ap (λ o. unwrap_or o gone) there in
    rows_updated gone given k es fs (cond over None (Some new)) (λ r. tidied overs gone (g r)) updated
    (shown_tidied overs gone new over (sym ends) ∙ (ap (tidied overs gone) is ∙ ap (λ r. tidied overs gone (g r)) (sym was)))

-- ---- looking one up

no_row : {A : Type 0} (gone : A) (given : ℕ) (es : ℕ → Option A) (k : ℕ) → (k ≡ 0) ⊎ (given < k) → item_of k (rows_in gone given es) ≡ None
no_row gone given es k (inl z) = ap (λ n. item_of n (rows_in gone given es)) z
no_row gone given es k (inr past) = item_missing (row_in gone es) given k past

module _ {A : Type 0} (overs : A → Bool) (gone : A) (given : ℕ) (es : ℕ → Option A) where
  -- a number without a row in memory was not given, or its row is shown as forgotten
  pub item_kept : Keeps overs gone given es → (k : ℕ) → es k ≡ kept_row overs (item_of k (rows_in gone given es))
  item_kept keeps k = by (es k) refl (keeps.0 k) (number_cases given k)
    where
      there : ((0 < k) × (k ≤ given)) → kept_row overs (item_of k (rows_in gone given es)) ≡ kept_row overs (Some (row_in gone es k))
      there low = ap (kept_row overs) (item_there (row_in gone es) given k low.0 low.1)

      by : (o : Option A) → es k ≡ o → IfSome o (Stays overs given k) → ((0 < k) × (k ≤ given)) ⊎ ((k ≡ 0) ⊎ (given < k)) → es k ≡ kept_row overs (item_of k (rows_in gone given es))
      by None is stays (inr apart) = is ∙ sym (ap (kept_row overs) (no_row gone given es k apart))
      by None is stays (inl low) =
          is ∙ (sym (ap (λ b. cond b None (Some gone)) (keeps.1 k low.0 low.1 is)) ∙ (ap (λ o. kept_row overs (Some (unwrap_or o gone))) (sym is) ∙ sym (there low)))
      by (Some row) is stays low = is ∙ (sym (ap (λ b. cond b None (Some row)) stays.2) ∙ (ap (λ o. kept_row overs (Some (unwrap_or o gone))) (sym is) ∙ sym (there (stays.0, stays.1))))

  pub row_missing : (k : ℕ) → es k ≡ None → row_at gone k (rows_in gone given es) ≡ gone
  row_missing k none = by (number_cases given k)
    where
      by : ((0 < k) × (k ≤ given)) ⊎ ((k ≡ 0) ⊎ (given < k)) → row_at gone k (rows_in gone given es) ≡ gone
      by (inl low) = ap (λ o. unwrap_or o gone) (item_there (row_in gone es) given k low.0 low.1) ∙ ap (λ o. unwrap_or o gone) none
      by (inr apart) = ap (λ o. unwrap_or o gone) (no_row gone given es k apart)

  pub row_kept : KeepsOnly overs given es → (k : ℕ) (row : A) → es k ≡ Some row → row_at gone k (rows_in gone given es) ≡ row
  row_kept keeps k row is =
      let stays : Stays overs given k row = subst (λ o. IfSome o (Stays overs given k)) is (keeps k) in
      ap (λ o. unwrap_or o gone) (item_there (row_in gone es) given k stays.0 stays.1) ∙ ap (λ o. unwrap_or o gone) is
