-- What a table keeps, after what is kept of one number changed.
use Rattle.std.proofs.Common.{◌≡◌, ℕ, Bool, true, false, cond, ◌&&◌, List, Option, Some, None, IfSome, OnSome, nat_cmp, unwrap_or, Result, Ok, Err, OnErr, refl, sym, ◌∙◌, ap, subst, inl, inr}
use Rattle.std.specs.Prelude.{⊤}
use Rattle.std.specs.BTreeMap.{is_at}
use Rattle.std.proofs.lemmas.Bool.{cases_eq, false≢true}
use Rattle.std.proofs.lemmas.Option.{none-some}
use Rattle.nats_tables.specs.Numbers.{count_from}
use Rattle.nats_tables.specs.Rows.{look, ChangedAt, ChangedIf, UpdatedIf, rows_in, row_in, Stays, KeepsOnly, KeepsAll, Keeps, woken, Indexes}
use Rattle.nats_tables.proofs.Numbers.{same_table}
use Rattle.nats_tables.proofs.Tables.{at_same, at_apart, changed_or_forgotten}

pub on_some : {X : Type 0} (o : Option X) (x : X) (P : Type 0) → o ≡ Some x → OnSome o P → P
on_some o x P is holds = subst (λ q. OnSome q P) is holds

pub on_err : {X E : Type 0} (r : Result X E) (P : Type 0) → P → OnErr r P
on_err (Ok x) P p = tt
on_err (Err e) P p = p

at_key : {A : Type 0} (k q : ℕ) (w : Option A) (old : Option A) → k ≡ q → cond (is_at (nat_cmp k) q) w old ≡ w
at_key k q w old e = ap (λ b. cond b w old) (at_same k q e)

off_key : {A : Type 0} (k q : ℕ) (w : Option A) (old : Option A) → (k ≡ q → ⊥) → cond (is_at (nat_cmp k) q) w old ≡ old
off_key k q w old d = ap (λ b. cond b w old) (at_apart k q d)

-- ---- nothing changed

module _ {A : Type 0} (overs rests : A → Bool) (gone : A) (given : ℕ) (es fs : ℕ → Option A) (same : (q : ℕ) → fs q ≡ es q) where
  pub rows_same : rows_in gone given fs ≡ rows_in gone given es
  rows_same = same_table (row_in gone fs) (row_in gone es) (count_from 1 given) (λ s. ap (λ o. unwrap_or o gone) (same s))

  pub keeps_same : Keeps overs gone given es → Keeps overs gone given fs
  keeps_same keeps = (λ s. subst (λ o. IfSome o (Stays overs given s)) (sym (same s)) (keeps.0 s), λ s low high none. keeps.1 s low high (sym (same s) ∙ none))

  pub index_same : (ws : List (ℕ × ⊤)) → Indexes rests es ws → Indexes rests fs ws
  index_same ws index s = index s ∙ ap (woken rests) (sym (same s))

-- what is kept was put there once more
pub put_again : {A : Type 0} (k : ℕ) (row new : A) (es fs : ℕ → Option A) → es k ≡ Some row → new ≡ row → ChangedAt k (Some new) es fs → (q : ℕ) → fs q ≡ es q
put_again k row new es fs there is changed q =
    changed q
    ∙ elim (cases_eq k q) [
      | inl e ↦ at_key k q (Some new) (es q) e ∙ (ap Some is ∙ (sym there ∙ ap es e))
      | inr d ↦ off_key k q (Some new) (es q) d
    ]

-- ---- a row was changed, and forgotten where it is over

module _ {A : Type 0} (overs rests : A → Bool) (gone : A) (given k : ℕ) (es mid fs : ℕ → Option A) (row new : A) (over : Bool) (there : es k ≡ Some row) (changed : ChangedAt k (Some new) es mid)
    (forgot : ChangedIf over k None mid fs) (ends : over ≡ overs new) where
  abbrev left_at : Option A
  left_at = cond over None (Some new)

  updated : ChangedAt k left_at es fs
  updated q = forgot q ∙ changed_or_forgotten over (is_at (nat_cmp k) q) new (mid q) (es q) (changed q)

  here : (q : ℕ) → k ≡ q → fs q ≡ left_at
  here q e = updated q ∙ at_key k q left_at (es q) e

  others : (q : ℕ) → (k ≡ q → ⊥) → fs q ≡ es q
  others q d = updated q ∙ off_key k q left_at (es q) d

  stays_left : (b : Bool) → over ≡ b → Stays overs given k row → IfSome (cond b None (Some new)) (Stays overs given k)
  stays_left true is stays = tt
  stays_left false is stays = (stays.0, stays.1, sym ends ∙ is)

  none_left : (b : Bool) → over ≡ b → cond b None (Some new) ≡ None → overs new ≡ true
  none_left true is none = sym ends ∙ is
  none_left false is none = absurd (none-some new (sym none))

  pub keeps_changed : (overs new ≡ true → overs gone ≡ true) → Keeps overs gone given es → Keeps overs gone given fs
  keeps_changed forgotten keeps = (only, all)
    where
      at_k : Stays overs given k row
      at_k = subst (λ o. IfSome o (Stays overs given k)) there (keeps.0 k)

      only : KeepsOnly overs given fs
      only s =
          elim (cases_eq k s) [
            | inl e ↦ subst (λ o. IfSome o (Stays overs given s)) (sym (here s e)) (subst (λ n. IfSome left_at (Stays overs given n)) e (stays_left over refl at_k))
            | inr d ↦ subst (λ o. IfSome o (Stays overs given s)) (sym (others s d)) (keeps.0 s)
          ]

      all : KeepsAll overs gone given fs
      all s low high none =
          elim (cases_eq k s) [
            | inl e ↦ forgotten (none_left over refl (sym (here s e) ∙ none))
            | inr d ↦ keeps.1 s low high (sym (others s d) ∙ none)
          ]

  module _ (ws vs : List (ℕ × ⊤)) (quiet : Bool) (slept : UpdatedIf quiet k None ws vs) (sleeps : quiet ≡ rests new) where
    index_here : (b c : Bool) → over ≡ b → quiet ≡ c → (b ≡ true → c ≡ true) → (c ≡ false → rests row ≡ false) → look k ws ≡ woken rests (Some row)
        → cond c None (look k ws) ≡ woken rests (cond b None (Some new))
    index_here true true is e over_rests awake was = refl
    index_here true false is e over_rests awake was = absurd (false≢true (over_rests refl))
    index_here false true is e over_rests awake was = sym (ap (λ x. cond x None (Some tt)) (sym sleeps ∙ e))
    index_here false false is e over_rests awake was = was ∙ (ap (λ x. cond x None (Some tt)) (awake refl) ∙ sym (ap (λ x. cond x None (Some tt)) (sym sleeps ∙ e)))

    slept_at : (b c : Bool) → c ≡ true → cond (b && c) None (look k ws) ≡ cond b None (look k ws)
    slept_at true c is = ap (λ x. cond x None (look k ws)) is
    slept_at false c is = refl

    slept_off : (b c : Bool) (o : Option ⊤) → c ≡ false → cond (b && c) None o ≡ o
    slept_off true c o is = ap (λ x. cond x None o) is
    slept_off false c o is = refl

    pub index_changed : (overs new ≡ true → rests new ≡ true) → (rests row ≡ true → rests new ≡ true) → Indexes rests es ws → Indexes rests fs vs
    index_changed over_rests stays_resting index s =
        elim (cases_eq k s) [
          | inl e ↦
              subst (λ n. look n vs ≡ woken rests (fs n)) e
              (slept k ∙ (slept_at quiet (is_at (nat_cmp k) k) (at_same k k refl)
              ∙ (index_here over quiet refl refl (λ is. sleeps ∙ over_rests (sym ends ∙ is)) awake (index k ∙ ap (woken rests) there)
              ∙ ap (woken rests) (sym (here k refl)))))
          | inr d ↦ slept s ∙ (slept_off quiet (is_at (nat_cmp k) s) (look s ws) (at_apart k s d) ∙ (index s ∙ ap (woken rests) (sym (others s d))))
        ]
      where
        awake_by : (b : Bool) → rests row ≡ b → quiet ≡ false → rests row ≡ false
        awake_by true is loud = absurd (false≢true (sym loud ∙ (sleeps ∙ stays_resting is)))
        awake_by false is loud = is

        awake : quiet ≡ false → rests row ≡ false
        awake = awake_by (rests row) refl
