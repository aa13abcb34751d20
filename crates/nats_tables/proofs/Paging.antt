-- The row of a number, after its page changed.
use Rattle.std.proofs.Common.{◌≡◌, ◌⊎◌, ℕ, zero, suc, ◌/◌, ◌%◌, ◌<◌, ◌≤◌, Bool, true, false, cond, List, [], ◌∷◌, ◌++◌, length, set, get_or, Option, Some, None, is_some, count_by, nat_lt, nat_cmp, refl, sym, ◌∙◌, ap, subst, arith, inl, inr, get_or-set_same, get_or-set_other, length-set, MutBor}
use Rattle.std.proofs.lemmas.Bool.{cases_eq}
use Rattle.std.proofs.lemmas.List.{get_or_past}
use Rattle.std.proofs.lemmas.List.Sums.{sum_by-cons}
use Rattle.std.specs.BTreeMap.{is_at}
use Rattle.nats_tables.specs.Rows.{look, ChangedAt}
use Rattle.nats_tables.specs.Pages.{slot_in, row_of}
use Rattle.std.proofs.lemmas.Option.{none-some, same_Some}
use Rattle.std.specs.Map.{lookup, set_value}
use Rattle.std.specs.Option.{option_copied_mut, OnSome}
use Rattle.nats_tables.specs.Lent.{Rewritten}
use Rattle.nats_tables.proofs.Tables.{at_same, at_apart}

-- ---- keys

at_turned : (a b : ℕ) → is_at (nat_cmp a) b ≡ is_at (nat_cmp b) a
at_turned a b =
    elim (cases_eq a b) [
      | inl e ↦ at_same a b e ∙ sym (at_same b a (sym e))
      | inr d ↦ at_apart a b d ∙ sym (at_apart b a (λ e. d (sym e)))
    ]

at_suc : (a b : ℕ) → is_at (nat_cmp a) b ≡ is_at (nat_cmp (suc a)) (suc b)
at_suc a b =
    elim (cases_eq a b) [
      | inl e ↦ at_same a b e ∙ sym (at_same (suc a) (suc b) (ap suc e))
      | inr d ↦ at_apart a b d ∙ sym (at_apart (suc a) (suc b) (λ e. d (omega (arith, e))))
    ]

-- numbers of one page are one where their slots are
at_slot : (i j : ℕ) → i / 64 ≡ j / 64 → is_at (nat_cmp (i % 64)) (j % 64) ≡ is_at (nat_cmp (suc i)) (suc j)
at_slot i j same =
    elim (cases_eq (i % 64) (j % 64)) [
      | inl e ↦ at_same (i % 64) (j % 64) e ∙ sym (at_same (suc i) (suc j) (omega (arith, same, e)))
      | inr d ↦ at_apart (i % 64) (j % 64) d ∙ sym (at_apart (suc i) (suc j) (λ e. d (omega (arith, e))))
    ]

-- ---- slots

module _ {A : Type 0} where
  pub slot_set : (slots : List (Option A)) (k : ℕ) (w : Option A) → (k < length slots) ⊎ (w ≡ None) → (j : ℕ)
      → get_or (set slots k w) j None ≡ cond (is_at (nat_cmp k) j) w (get_or slots j None)
  slot_set slots k w there j =
      elim (cases_eq k j) [
        | inl e ↦ subst (λ n. get_or (set slots k w) n None ≡ w) e (here there) ∙ sym (ap (λ b. cond b w (get_or slots j None)) (at_same k j e))
        | inr d ↦ get_or-set_other slots k j w None (λ e. d (sym e)) ∙ sym (ap (λ b. cond b w (get_or slots j None)) (at_apart k j d))
      ]
    where
      past : (within : Bool) → nat_lt k (length slots) ≡ within → w ≡ None → get_or (set slots k w) k None ≡ w
      past true is none = get_or-set_same slots k w None (grind (is, arith))
      past false is none =
          let over : length slots ≤ k = grind (is, arith) in
          get_or_past (set slots k w) k None (omega (arith, length-set slots k w, over)) ∙ sym none

      here : (k < length slots) ⊎ (w ≡ None) → get_or (set slots k w) k None ≡ w
      here (inl within) = get_or-set_same slots k w None within
      here (inr none) = past (nat_lt k (length slots)) refl none

  pub slot_pushed : (slots : List (Option A)) (x : Option A) (j : ℕ) → get_or (slots ++ x ∷ []) j None ≡ cond (is_at (nat_cmp (length slots)) j) x (get_or slots j None)
  slot_pushed [] x zero = refl
  slot_pushed [] x (suc j) = sym (ap (λ b. cond b x None) (at_apart 0 (suc j) (λ e. absurd (omega (arith, e)))))
  slot_pushed (y ∷ slots) x zero = sym (ap (λ b. cond b x y) (at_apart (suc (length slots)) 0 (λ e. absurd (omega (arith, e)))))
  slot_pushed (y ∷ slots) x (suc j) = slot_pushed slots x j ∙ ap (λ b. cond b x (get_or slots j None)) (at_suc (length slots) j)

  bare_slot : (slots : List (Option A)) → count_by is_some slots ≡ 0 → (j : ℕ) → get_or slots j None ≡ None
  bare_slot [] none j = refl
  bare_slot (None ∷ slots) none zero = refl
  bare_slot (None ∷ slots) none (suc j) = bare_slot slots (omega (arith, none, sum_by-cons (λ o. cond (is_some o) 1 0) None slots)) j
  bare_slot (Some x ∷ slots) none j = absurd (omega (arith, none, sum_by-cons (λ o. cond (is_some o) 1 0) (Some x) slots))

  -- ---- pages

  pub look_first : (place : ℕ) (slots : List (Option A)) (pages : List (ℕ × List (Option A))) → look place ((place, slots) ∷ pages) ≡ Some slots
  look_first place slots pages = ap (λ b. cond b (Some slots) (look place pages)) (at_same place place refl)

  look_later : (p place : ℕ) (slots : List (Option A)) (pages : List (ℕ × List (Option A))) → (p ≡ place → ⊥) → look p ((place, slots) ∷ pages) ≡ look p pages
  look_later p place slots pages apart = ap (λ b. cond b (Some slots) (look p pages)) (at_apart p place apart)

  -- a page comes first
  pub page_first : (k : ℕ) (slots : List (Option A)) (pages : List (ℕ × List (Option A))) (p : ℕ) → look p ((k, slots) ∷ pages) ≡ cond (is_at (nat_cmp k) p) (Some slots) (look p pages)
  page_first k slots pages p = ap (λ b. cond b (Some slots) (look p pages)) (at_turned p k)

  -- the first page is another
  pub first_changed : (k : ℕ) (new old : List (Option A)) (pages : List (ℕ × List (Option A))) (p : ℕ)
      → look p ((k, new) ∷ pages) ≡ cond (is_at (nat_cmp k) p) (Some new) (look p ((k, old) ∷ pages))
  first_changed k new old pages p =
      page_first k new pages p
      ∙ elim (cases_eq k p) [
        | inl e ↦ ap (λ b. cond b (Some new) (look p pages)) (at_same k p e) ∙ sym (ap (λ b. cond b (Some new) (look p ((k, old) ∷ pages))) (at_same k p e))
        | inr d ↦
            ap (λ b. cond b (Some new) (look p pages)) (at_apart k p d)
            ∙ (sym (look_later p k old pages (λ e. d (sym e))) ∙ sym (ap (λ b. cond b (Some new) (look p ((k, old) ∷ pages))) (at_apart k p d)))
      ]

  -- a later page is another
  pub later_changed : (place k : ℕ) (slots : List (Option A)) (page : Option (List (Option A))) (old new : List (ℕ × List (Option A))) → (k ≡ place → ⊥)
      → ((p : ℕ) → look p new ≡ cond (is_at (nat_cmp k) p) page (look p old))
      → (p : ℕ) → look p ((place, slots) ∷ new) ≡ cond (is_at (nat_cmp k) p) page (look p ((place, slots) ∷ old))
  later_changed place k slots page old new apart changed p =
      elim (cases_eq p place) [
        | inl e ↦
            ap (λ b. cond b (Some slots) (look p new)) (at_same p place e)
            ∙ (sym (ap (λ b. cond b (Some slots) (look p old)) (at_same p place e))
            ∙ sym (ap (λ b. cond b page (look p ((place, slots) ∷ old))) (at_apart k p (λ same. apart (same ∙ e)))))
        | inr d ↦
            look_later p place slots new d ∙ (changed p ∙ ap (cond (is_at (nat_cmp k) p) page) (sym (look_later p place slots old d)))
      ]

  -- the row of a number changed, where the slot of its page did
  pub row_changed : (ps qs : List (ℕ × List (Option A))) (i : ℕ) (page : Option (List (Option A))) (w : Option A)
      → ((p : ℕ) → look p qs ≡ cond (is_at (nat_cmp (i / 64)) p) page (look p ps))
      → ((s : ℕ) → slot_in s page ≡ cond (is_at (nat_cmp (i % 64)) s) w (slot_in s (look (i / 64) ps)))
      → ChangedAt (suc i) w (row_of ps) (row_of qs)
  row_changed ps qs i page w pages slots zero = sym (ap (λ b. cond b w None) (at_apart (suc i) 0 (λ e. absurd (omega (arith, e)))))
  row_changed ps qs i page w pages slots (suc j) =
      elim (cases_eq (i / 64) (j / 64)) [
        | inl e ↦
            ap (slot_in (j % 64)) (pages (j / 64) ∙ ap (λ b. cond b page (look (j / 64) ps)) (at_same (i / 64) (j / 64) e))
            ∙ (slots (j % 64)
            ∙ (ap (λ b. cond b w (slot_in (j % 64) (look (i / 64) ps))) (at_slot i j e)
            ∙ ap (λ p. cond (is_at (nat_cmp (suc i)) (suc j)) w (slot_in (j % 64) (look p ps))) e))
        | inr d ↦
            ap (slot_in (j % 64)) (pages (j / 64) ∙ ap (λ b. cond b page (look (j / 64) ps)) (at_apart (i / 64) (j / 64) d))
            ∙ sym (ap (λ b. cond b w (slot_in (j % 64) (look (j / 64) ps))) (at_apart (suc i) (suc j) (λ e. d (omega (arith, e)))))
      ]

  pub same_rows : (ps qs : List (ℕ × List (Option A))) → ((p s : ℕ) → slot_in s (look p qs) ≡ slot_in s (look p ps)) → (q : ℕ) → row_of qs q ≡ row_of ps q
  same_rows ps qs same zero = refl
  same_rows ps qs same (suc j) = same (j / 64) (j % 64)

-- ---- what a `&mut` to a row leaves

-- what was at a key, put there once more
pub set_same : {A : Type 0} (test : ℕ → Bool) (es : List (ℕ × A)) (x : A) → Some x ≡ lookup test es → set_value test es x ≡ es
set_same test [] x there = refl
set_same test (e ∷ es) x there = by (test e.0) there (set_same test es x)
  where
    by : (b : Bool) → Some x ≡ cond b (Some e.1) (lookup test es) → (Some x ≡ lookup test es → set_value test es x ≡ es) → cond b ((e.0, x) ∷ es) (e ∷ set_value test es x) ≡ e ∷ es
    by true there rest = ap (λ v. (e.0, v) ∷ es) (same_Some x e.1 there)
    by false there rest = ap (λ fs. e ∷ fs) (rest there)

slot_within : {A : Type 0} (slots : List (Option A)) (k : ℕ) (row : A) → Some row ≡ get_or slots k None → k < length slots
slot_within slots k row there = by (nat_lt k (length slots)) refl
  where
    by : (b : Bool) → nat_lt k (length slots) ≡ b → k < length slots
    by true is = grind (is, arith)
    by false is = absurd (none-some row (sym (get_or_past slots k None (grind (is, arith))) ∙ sym there))

module _ {A : Type 0} (place number i : ℕ) (newest page : List (Option A)) (older after : List (ℕ × List (Option A))) (numbered : number ≡ suc i) (elsewhere : i / 64 ≡ place → ⊥)
    (there : Some page ≡ look (i / 64) older) where
  pub older_row : get_or page (i % 64) None ≡ row_of ((place, newest) ∷ older) number
  older_row =
      ap (slot_in (i % 64)) (there ∙ sym (look_later (i / 64) place newest older elsewhere)) ∙ ap (row_of ((place, newest) ∷ older)) (sym numbered)

  pub older_rewritten : (w : A) (o : Option (MutBor A)) → ((p : ℕ) → look p after ≡ cond (is_at (nat_cmp (i / 64)) p) (Some (set page (i % 64) (Some w))) (look p older))
      → option_copied_mut o ≡ get_or page (i % 64) None → OnSome o (Rewritten number w ((place, newest) ∷ older) ((place, newest) ∷ after))
  older_rewritten w None changed value = tt
  older_rewritten w (Some r) changed value = (subst (λ n. ChangedAt n (Some w) (row_of ((place, newest) ∷ older)) (row_of ((place, newest) ∷ after))) (sym numbered) rows, refl)
    where
      slots : (s : ℕ) → get_or (set page (i % 64) (Some w)) s None ≡ cond (is_at (nat_cmp (i % 64)) s) (Some w) (slot_in s (look (i / 64) ((place, newest) ∷ older)))
      slots s =
          slot_set page (i % 64) (Some w) (inl (slot_within page (i % 64) r.now value)) s
          ∙ ap (λ o. cond (is_at (nat_cmp (i % 64)) s) (Some w) (slot_in s o)) (there ∙ sym (look_later (i / 64) place newest older elsewhere))

      rows : ChangedAt (suc i) (Some w) (row_of ((place, newest) ∷ older)) (row_of ((place, newest) ∷ after))
      rows =
          row_changed ((place, newest) ∷ older) ((place, newest) ∷ after) i (Some (set page (i % 64) (Some w))) (Some w)
          (later_changed place (i / 64) newest (Some (set page (i % 64) (Some w))) older after elsewhere changed) slots
