-- Subscriptions that end with their link, and those that are noted as such.
use Rattle.std.proofs.Common.{◌≡◌, ℕ, zero, suc, Bool, true, false, ◌&&◌, cond, List, [], ◌∷◌, ◌++◌, map, ◌==◌, refl, sym, ◌∙◌, ap, subst}
use Rattle.std.specs.Prelude.{slice_get, OnOk, OnErr, Result}
use Rattle.std.proofs.lemmas.Bool.{false≢true, eqb-true, eqb-false}
use Rattle.std.specs.declared.result.Result.TheVariants.{Ok, Err}
use Rattle.nats_message.specs.declared.message.Message.{Message}
use Rattle.nats_tables.specs.Numbers.{at_index, at_number, item_of}
use Rattle.nats_tables.specs.Rows.{Tidy}
use Rattle.nats_tables.proofs.Numbers.{same_cons}
use Rattle.nats_history.specs.declared.config.Config.{Config}
use Rattle.nats_history.specs.declared.stage.Stage.{Stage}
use Rattle.nats_history.specs.declared.stage.Stage.TheVariants.{Asked, Open, Ended}
use Rattle.nats_history.specs.History.{Sub, is_open, is_over, forgotten, kept, cut, puts, reached, open_if, end_if}
use Rattle.nats_subs.specs.declared.drained.Drained.{Drained}
use Rattle.nats_subs.specs.declared.subs.subscription.Alteration.TheVariants as alterations
use Rattle.nats_subs.specs.Delivery.{altered, put_into, deliver, take_from}
use Rattle.nats_subs.specs.Draining.{is_drained, drained_at, has, Covers, LeavesOthers}
use Rattle.nats_subs.proofs.Counted.{kept_tidy}

-- ---- one subscription

abbrev pub link_ended : Sub → Sub
link_ended sub = kept (altered alterations.EndLink sub)

drained_ended : (d : Bool) (stage : Stage) → (d && is_open (end_if d stage)) ≡ false
drained_ended true Asked = refl
drained_ended true Open = refl
drained_ended true Ended = refl
drained_ended false stage = refl

end_quiet : (d : Bool) (stage : Stage) → (d && is_open stage) ≡ false → end_if d stage ≡ stage
end_quiet false stage quiet = refl
end_quiet true Asked quiet = refl
end_quiet true Ended quiet = refl
end_quiet true Open quiet = absurd (false≢true (sym quiet))

quiet_kept : (sub : Sub) → is_drained sub ≡ false → is_drained (kept sub) ≡ false
quiet_kept sub quiet = by (is_over sub)
  where
    by : (b : Bool) → is_drained (cond b forgotten sub) ≡ false
    by true = refl
    by false = quiet

tidy_kept : (sub : Sub) → is_over (kept sub) ≡ true → kept sub ≡ forgotten
tidy_kept sub over = by (is_over sub) refl over
  where
    by : (b : Bool) → is_over sub ≡ b → is_over (cond b forgotten sub) ≡ true → cond b forgotten sub ≡ forgotten
    by true is over = refl
    by false is over = absurd (false≢true (sym is ∙ over))

-- none is left
none_drained : (sub : Sub) → is_drained (link_ended sub) ≡ false
none_drained sub = quiet_kept (altered alterations.EndLink sub) (drained_ended sub.is_draining sub.stage)

-- the others stay as they are
quiet_still : (sub : Sub) → is_drained sub ≡ false → (is_over sub ≡ true → sub ≡ forgotten) → link_ended sub ≡ sub
quiet_still sub quiet tidy =
    ap (λ stage. kept (record sub { stage = stage })) (end_quiet sub.is_draining sub.stage quiet) ∙ kept_tidy sub tidy

twice : (sub : Sub) → link_ended (link_ended sub) ≡ link_ended sub
twice sub = quiet_still (link_ended sub) (none_drained sub) (tidy_kept (altered alterations.EndLink sub))

-- ---- what ends with its link then did so before

kept_back : (sub : Sub) → is_drained (kept sub) ≡ true → is_drained sub ≡ true
kept_back sub drained = by (is_over sub) drained
  where
    by : (b : Bool) → is_drained (cond b forgotten sub) ≡ true → is_drained sub ≡ true
    by true drained = absurd (false≢true drained)
    by false drained = drained

and_back : (d a b : Bool) → (a ≡ true → b ≡ true) → (d && a) ≡ true → (d && b) ≡ true
and_back true a b back is = back is
and_back false a b back is = is

end_back : (b : Bool) (stage : Stage) → is_open (end_if b stage) ≡ true → is_open stage ≡ true
end_back false stage is = is
end_back true Asked is = is
end_back true Open is = refl
end_back true Ended is = is

close_back : (stage : Stage) → is_open (end_if true (open_if true stage)) ≡ true → is_open stage ≡ true
close_back Asked is = is
close_back Open is = refl
close_back Ended is = is

-- nothing but its drain and its opening makes one end with its link
abbrev pub Drainless : (Sub → Sub) → Type 0
Drainless f = (sub : Sub) → is_drained (f sub) ≡ true → is_drained sub ≡ true

pub renewed_drainless : Drainless (λ sub. kept (altered alterations.Renew sub))
renewed_drainless sub is =
    and_back sub.is_draining (is_open (end_if sub.is_shut sub.stage)) (is_open sub.stage) (end_back sub.is_shut sub.stage) (kept_back (altered alterations.Renew sub) is)

pub closed_drainless : Drainless (λ sub. kept (altered alterations.Close sub))
closed_drainless sub is =
    and_back sub.is_draining (is_open (end_if true (open_if true sub.stage))) (is_open sub.stage) (close_back sub.stage) (kept_back (altered alterations.Close sub) is)

pub taken_drainless : Drainless (λ sub. kept (take_from sub))
taken_drainless sub is = kept_back (take_from sub) is

pub delivered_drainless : (c : Config) (m : Message) → Drainless (λ sub. kept (deliver c m sub))
delivered_drainless c m sub is = by (puts c sub) (kept_back (deliver c m sub) is)
  where
    by : (b : Bool) → is_drained (cond b (put_into m sub) sub) ≡ true → is_drained sub ≡ true
    by true is =
        let ends = reached sub.limit (cut (suc sub.puts)) in
        and_back sub.is_draining (is_open (end_if ends sub.stage)) (is_open sub.stage) (end_back ends sub.stage) is
    by false is = is

-- ---- all of them

item_others : (k s : ℕ) (f : Sub → Sub) (xs : List Sub) → (s ≡ k → ⊥) → item_of s (at_number k f xs) ≡ item_of s xs
item_others zero s f xs apart = refl
item_others (suc i) zero f xs apart = refl
item_others (suc i) (suc j) f xs apart = by_place i j xs (λ e. apart (ap suc e))
  where
    by_place : (i j : ℕ) (xs : List Sub) → (j ≡ i → ⊥) → slice_get (at_index i f xs) j ≡ slice_get xs j
    by_place i j [] apart = refl
    by_place zero zero (x ∷ xs) apart = absurd (apart refl)
    by_place zero (suc j) (x ∷ xs) apart = refl
    by_place (suc i) zero (x ∷ xs) apart = refl
    by_place (suc i) (suc j) (x ∷ xs) apart = by_place i j xs (λ e. apart (ap suc e))

item_ended : (k : ℕ) (xs : List Sub) → drained_at (item_of k (at_number k link_ended xs)) ≡ false
item_ended zero xs = refl
item_ended (suc i) xs = by_place i xs
  where
    by_place : (i : ℕ) (xs : List Sub) → drained_at (slice_get (at_index i link_ended xs) i) ≡ false
    by_place i [] = refl
    by_place zero (x ∷ xs) = none_drained x
    by_place (suc i) (x ∷ xs) = by_place i xs

module _ (d : Drained) (f : Sub → Sub) (drainless : Drainless f) where
  pub covers_at : (k : ℕ) (rows : List Sub) → Covers d rows → Covers d (at_number k f rows)
  covers_at zero rows covers s is = covers s is
  covers_at (suc i) rows covers zero is = absurd (false≢true is)
  covers_at (suc i) rows covers (suc j) is = covers (suc j) (by_place i j rows is)
    where
      by_place : (i j : ℕ) (xs : List Sub) → drained_at (slice_get (at_index i f xs) j) ≡ true → drained_at (slice_get xs j) ≡ true
      by_place i j [] is = is
      by_place zero zero (x ∷ xs) is = drainless x is
      by_place zero (suc j) (x ∷ xs) is = is
      by_place (suc i) zero (x ∷ xs) is = is
      by_place (suc i) (suc j) (x ∷ xs) is = by_place i j xs is

  pub covers_each : (rows : List Sub) → Covers d rows → Covers d (map f rows)
  covers_each rows covers zero is = absurd (false≢true is)
  covers_each rows covers (suc j) is = covers (suc j) (by_place j rows is)
    where
      by_place : (j : ℕ) (xs : List Sub) → drained_at (slice_get (map f xs) j) ≡ true → drained_at (slice_get xs j) ≡ true
      by_place j [] is = is
      by_place zero (x ∷ xs) is = drainless x is
      by_place (suc j) (x ∷ xs) is = by_place j xs is

pub covers_none : (d : Drained) → Covers d []
covers_none d zero is = absurd (false≢true is)
covers_none d (suc j) is = absurd (false≢true is)

pub covers_more : (d : Drained) (rows : List Sub) (sub : Sub) → is_drained sub ≡ false → Covers d rows → Covers d (rows ++ sub ∷ [])
covers_more d rows sub quiet covers zero is = absurd (false≢true is)
covers_more d rows sub quiet covers (suc j) is = covers (suc j) (by_place j rows is)
  where
    by_place : (j : ℕ) (xs : List Sub) → drained_at (slice_get (xs ++ sub ∷ []) j) ≡ true → drained_at (slice_get xs j) ≡ true
    by_place zero [] is = absurd (false≢true (sym quiet ∙ is))
    by_place (suc j) [] is = is
    by_place zero (x ∷ xs) is = is
    by_place (suc j) (x ∷ xs) is = by_place j xs is

-- the same where memory may be wanting
pub covers_tried : {E : Type 0} {T : Type 0} (d : Drained) (r : Result T E) (rows changed new : List Sub) → OnOk r (new ≡ changed) → OnErr r (new ≡ rows) → Covers d changed → Covers d rows → Covers d new
covers_tried d (Ok x) rows changed new ok err after before = subst (Covers d) (sym ok) after
covers_tried d (Err e) rows changed new ok err after before = subst (Covers d) (sym err) before

pub covers_ended : (d : Drained) (rows : List Sub) → Covers d (map link_ended rows)
covers_ended d rows zero is = absurd (false≢true is)
covers_ended d rows (suc j) is = absurd (false≢true (sym (by_place j rows) ∙ is))
  where
    by_place : (j : ℕ) (xs : List Sub) → drained_at (slice_get (map link_ended xs) j) ≡ false
    by_place j [] = refl
    by_place zero (x ∷ xs) = none_drained x
    by_place (suc j) (x ∷ xs) = by_place j xs

module _ (d e : Drained) (k : ℕ) (f : Sub → Sub) (rows new : List Sub) (is : new ≡ at_number k f rows) (others : LeavesOthers k d e) where
  -- one was changed, and it was noted where it ends with its link
  pub covers_settled : Covers d rows → (drained_at (item_of k new) ≡ true → has e k ≡ true) → Covers e new
  covers_settled covers here s drained = by (s == k) refl
    where
      by : (b : Bool) → (s == k) ≡ b → has e s ≡ true
      by true same =
          let same_number : s ≡ k = eqb-true s k same in
          subst (λ n. has e n ≡ true) (sym same_number) (here (subst (λ n. drained_at (item_of n new) ≡ true) same_number drained))
      by false apart =
          let other = eqb-false s k apart in
          others s other (covers s (ap drained_at (sym (item_others k s f rows other)) ∙ (ap (λ xs. drained_at (item_of s xs)) (sym is) ∙ drained)))

-- one that was noted leaves, and ended
pub covers_left : (d e : Drained) (k : ℕ) (rows new : List Sub) → new ≡ at_number k link_ended rows → LeavesOthers k d e → Covers d rows → Covers e new
covers_left d e k rows new is others covers =
    covers_settled d e k link_ended rows new is others covers
    (λ drained. absurd (false≢true (sym (item_ended k rows) ∙ (ap (λ xs. drained_at (item_of k xs)) (sym is) ∙ drained))))

pub ended_same : (k : ℕ) (xs : List Sub) → map link_ended (at_number k link_ended xs) ≡ map link_ended xs
ended_same zero xs = refl
ended_same (suc i) xs = by_place i xs
  where
    by_place : (i : ℕ) (xs : List Sub) → map link_ended (at_index i link_ended xs) ≡ map link_ended xs
    by_place i [] = refl
    by_place zero (x ∷ xs) = ap (λ y. y ∷ map link_ended xs) (twice x)
    by_place (suc i) (x ∷ xs) = ap (λ ys. link_ended x ∷ ys) (by_place i xs)

not_true : (b : Bool) → (b ≡ true → ⊥) → b ≡ false
not_true true never = absurd (never refl)
not_true false never = refl

quiet_rows : (xs : List Sub) → Tidy is_over forgotten xs → ((i : ℕ) → drained_at (slice_get xs i) ≡ false) → map link_ended xs ≡ xs
quiet_rows [] tidy quiet = refl
quiet_rows (x ∷ xs) tidy quiet = same_cons _ _ _ _ (quiet_still x (quiet 0) tidy.0) (quiet_rows xs tidy.1 (λ i. quiet (suc i)))

-- where none is noted any more, and all were, all ended
pub all_ended : (d : Drained) (partial : Bool) (rows : List Sub) → Tidy is_over forgotten rows → Covers d rows → ((s : ℕ) → has d s ≡ true → partial ≡ true) → partial ≡ false
    → map link_ended rows ≡ rows
all_ended d partial rows tidy covers none whole =
    quiet_rows rows tidy
    (λ i. not_true (drained_at (slice_get rows i)) (λ is. false≢true (sym whole ∙ none (suc i) (covers (suc i) is))))
