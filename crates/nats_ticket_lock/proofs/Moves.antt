-- Each kind of step keeps the rule.
use Rattle.std.proofs.Common.{nat_le, ◌≡◌, ◌≢◌, ◌⊎◌, ℕ, zero, suc, ◌+◌, ◌-◌, ◌%◌, ◌^◌, ◌<◌, ◌≤◌, List, [], ◌∷◌, ◌++◌, length, map, max, set, get_or, Bool, true, false, eqb, eq-eqb, ne_eqb, Option, Some, None, refl, sym, ap, ◌∙◌, subst, inl, inr, ⊎_elim, arith, length-append}
use mathlib.Core.Option.{some, none, some-ne-none, some-injective}
use mathlib.Core.Option as maybe
use native.Mathlib.Decide.{ℕ_discrete}
use lib.ListN.{get_elem?, length-map}
use prog.Atomic.{either}
use Rattle.atomic_table.specs.Table.{State, step, keeps, takes, gives, put_back, rest, Allows, Splits, Joins, opening}
use Rattle.atomic_table.proofs.Lists.{at_set, at_snoc, at_last, at_longer, set_else, set_again}
use Rattle.nats_ticket_lock.specs.declared.rule.Stage.{Stage}
use Rattle.nats_ticket_lock.specs.declared.rule.Stage.TheVariants.{Idle, Waits, Turn, Held}
use Rattle.nats_ticket_lock.specs.declared.rule.Account.{Account}
use Rattle.nats_ticket_lock.specs.declared.rule.View.{View}
use Rattle.nats_ticket_lock.specs.Tally.{count_in}
use Rattle.nats_ticket_lock.specs.Rule.{calls_of, Begins, ticket_of, number_of, Owns, tickets, numbers, newcomer, HasTurn, Knows, AtHome, IsOut, Kept}
use Rattle.nats_ticket_lock.specs.Steps.{longer, staged, add_own, first_number, told, joined, spent_view, recorded, numbered, caught_up, ticket_no, Sat, drew, looked, compared, passed, counted, gave, took, added, was_numbered}
use Rattle.nats_ticket_lock.proofs.Tallies.{tally_at, spread_same, spread_blank, spread_more, spread_less, spread_join, spread_range, spread_apart, total_at, spread_full, spread_lacks}
use Rattle.nats_ticket_lock.proofs.Entries.{calls_miss, begins_more, heard_more, heard_append, owns_append, numbers_append, owns_more, owns_one_more, pick_either, owns_between, longer_begins, earlier}
use Rattle.std.proofs.lemmas.List.{append-nil}

module _ {A : Type 0} where
  -- what holds of each
  pub each_set : (P : A → Type 0) (l : List A) (i : ℕ) (w : A) → P w → ((j : ℕ) (u : A) → j ≢ i → get_elem? l j ≡ some u → P u) → (j : ℕ) (u : A) → get_elem? (set l i w) j ≡ some u → P u
  each_set P l i w mine others j u e = ⊎_elim (λ (t : (j ≡ i) × (w ≡ u)). subst P t.1 mine) (λ (t : (j ≢ i) × (get_elem? l j ≡ some u)). others j u t.0 t.1) (at_set l i j w u e)

  pub each_snoc : (P : A → Type 0) (l : List A) (w : A) → P w → ((j : ℕ) (u : A) → get_elem? l j ≡ some u → P u) → (j : ℕ) (u : A) → get_elem? (l ++ w ∷ []) j ≡ some u → P u
  each_snoc P l w mine others j u e = ⊎_elim (λ t. others j u t) (λ (t : w ≡ u). subst P t mine) (at_snoc l w u j e)

  pub set_there : (l : List A) (i : ℕ) (v w : A) → get_elem? l i ≡ some v → get_elem? (set l i w) i ≡ some w
  set_there [] i v w e = absurd (some-ne-none v (sym e))
  set_there (x ∷ xs) zero v w e = refl
  set_there (x ∷ xs) (suc i) v w e = set_there xs i v w e

pub held_first : {S : Type 0} (l : List (ℕ × S)) (x : ℕ × S) → l ≡ x ∷ [] → l ≡ x ∷ rest l
held_first l x p = p ∙ (λ i. x ∷ rest (sym p i))

abbrev turn_mark : Stage → ℕ
turn_mark Idle = 0
turn_mark (Waits t) = 1
turn_mark (Turn t) = 2
turn_mark (Held t) = 3

module _ {K E D : Type 0} (by : E → ℕ) (entries : D → List E) (made : D → ℕ) (suits : K → D → Type 0) (key : K) where
  abbrev Vw : Type 0
  Vw = View K E

  abbrev St : Type 0
  St = State (Option D) (View K E)

  abbrev Rule : St → Type 0
  Rule = Kept by entries made suits key

  abbrev Home : List E → ℕ → List (maybe.Option (Option D)) → Type 0
  Home = AtHome by entries made suits key

  -- one has the value out, before and after
  out_set : (served : ℕ) (views : List Vw) (id : ℕ) (v w : Vw) → get_elem? views id ≡ some v → (v.stage ≡ Held served → w.stage ≡ Held served) → IsOut served views → IsOut served (set views id w)
  out_set served views id v w at same h = by_id (ℕ_discrete h.0 id)
    where
      by_id : Dec (h.0 ≡ id) → IsOut served (set views id w)
      by_id (yes e) = (id, w, set_there views id v w at, same (ap (λ (u : Vw). u.stage) (some-injective v h.1 (sym at ∙ subst (λ j. get_elem? views j ≡ some h.1) e h.2)) ∙ h.3))
      by_id (no ne) = (h.0, h.1, set_else views id h.0 w ne ∙ h.2, h.3)

  -- a step after which the view has the same ticket and the same numbers, and no entry and no seat came
  pub restage : (s : St) (h : Rule s) (id : ℕ) (v w : Vw) (W : List ℕ) (H : List (maybe.Option (Option D))) → get_elem? s.views id ≡ some v
      → W ≡ (length h.all + h.count) ∷ h.drawn ∷ h.served ∷ [] → tickets w ≡ tickets v → numbers w ≡ numbers v → Knows by key h.all h.count h.served w
      → Home h.all h.count H ⊎ IsOut h.served (set s.views id w)
      → Rule (record { words = W; homes = H; views = set s.views id w })
  restage s h id v w W H at ws ts ns k val = record {
    all = h.all;
    count = h.count;
    drawn = h.drawn;
    served = h.served;
    words_are = ws;
    small = h.small;
    tickets_are = spread_same tickets s.views id v w h.served h.drawn at ts h.tickets_are;
    numbers_are = spread_same numbers s.views id v w 1 (suc h.count) at ns h.numbers_are;
    each = each_set (Knows by key h.all h.count h.served) s.views id w k (λ j u ne e. h.each j u e);
    others = h.others;
    value = val;
  }

  value_stays : (s : St) (h : Rule s) (id : ℕ) (v w : Vw) → get_elem? s.views id ≡ some v → (v.stage ≡ Held h.served → w.stage ≡ Held h.served) → Home h.all h.count s.homes ⊎ IsOut h.served (set s.views id w)
  value_stays s h id v w at f = ⊎_elim (λ x. inl x) (λ o. inr (out_set h.served s.views id v w at f o)) h.value

  stays : (s : St) (h : Rule s) (id : ℕ) (v : Vw) (W : List ℕ) → get_elem? s.views id ≡ some v → W ≡ (length h.all + h.count) ∷ h.drawn ∷ h.served ∷ [] → Rule (record { words = W; homes = s.homes; views = set s.views id v })
  stays s h id v W at ws = restage s h id v v W s.homes at ws refl refl (h.each id v at) (value_stays s h id v v at (λ e. e))

  pub compares : (slots id : ℕ) (me : Sat K E D) → Allows Rule slots id me 2 (λ n. n) (compared by (step slots 2 0 0 none) me)
  compares slots id me s h deep at small = (
    me.0,
    keeps,
    tt,
    stays s h id me.0 (set s.words 2 (get_or s.words 2 0)) at (ap (λ (l : List ℕ). set l 2 (get_or l 2 0)) h.words_are),
    (
      refl,
      earlier h.all me.0.seen me.0.heard (h.each id me.0 at).seen (h.each id me.0 at).heard,
      let t = total_at numbers s.views id me.0 at in let n = h.numbers_are.1 in let l : length (numbers me.0) ≡ length me.0.accounts = length-map me.0.accounts number_of in omega (arith, t, n, l, h.small.0),
      (h.each id me.0 at).known,
    ),
  )

  -- with the ticket that is served, what the rule says of the view
  turn_at : (s : St) (h : Rule s) (id : ℕ) (v : Vw) (stage : Stage) → get_elem? s.views id ≡ some v → v.stage ≡ stage → HasTurn h.all h.count h.served v stage
  turn_at s h id v stage at is = subst (HasTurn h.all h.count h.served v) is (h.each id v at).turn

  pub counts : (slots id : ℕ) (me : Sat K E D) (t : ℕ) → me.0.stage ≡ Held t → Allows Rule slots id me 0 (λ n. n) (counted by (step slots 0 0 0 none) me)
  counts slots id me t is s h deep at small =
      let k = turn_at s h id me.0 (Held t) at is in (
        me.0,
        keeps,
        tt,
        stays s h id me.0 (set s.words 0 (get_or s.words 0 0)) at (ap (λ (l : List ℕ). set l 0 (get_or l 0 0)) h.words_are),
        (
          refl,
          ap (λ (l : List ℕ). get_or l 0 0) h.words_are ∙ (λ i. length (sym k.1 i) + sym k.2 i),
          (let l : length (numbers me.0) ≡ length me.0.accounts = length-map me.0.accounts number_of in (
            (λ full n lo le. spread_full numbers s.views id me.0 (suc h.count) at h.numbers_are (omega (arith, l, full, k.2)) n lo (omega (arith, le, k.2))),
            (λ ne. let r = spread_lacks numbers s.views id me.0 (suc h.count) at h.numbers_are (λ q. ne (omega (arith, q, l, k.2))) in (r.0, r.1, omega (arith, r.2, k.2), r.3)),
          )),
          (λ n out. ap (calls_of by n) k.1 ∙ h.others n (λ some few. out some (omega (arith, few, k.2)))),
        ),
      )

  no_turn : (all more : List E) (count count' served served' : ℕ) (u : Vw) (stage : Stage) → count_in served (ticket_of stage) ≡ 0 → HasTurn all count served u stage → HasTurn more count' served' u stage
  no_turn all more count count' served served' u Idle z h = tt
  no_turn all more count count' served served' u (Waits t) z h = tt
  no_turn all more count count' served served' u (Turn t) z h = absurd (omega (arith, z, h))
  no_turn all more count count' served served' u (Held t) z h = absurd (let e : t ≡ served = h.0 in omega (arith, z, e))

  -- with the ticket that is served, another has another ticket
  other_ticket : (s : St) (h : Rule s) (id : ℕ) (v : Vw) (t : ℕ) → get_elem? s.views id ≡ some v → tickets v ≡ t ∷ [] → t ≡ h.served → (j : ℕ) (u : Vw) → j ≢ id → get_elem? s.views j ≡ some u → count_in h.served (tickets u) ≡ 0
  other_ticket s h id v t at ticket now j u ne e =
      let k : count_in h.served (tickets v) ≡ count_in h.served (t ∷ []) = ap (count_in h.served) ticket in
      spread_apart tickets s.views id j v u h.served h.drawn h.served (λ x. ne (sym x)) at e (omega (arith, k, now)) h.tickets_are

  -- then the value is at home, or out with this one
  home_or_mine : (s : St) (h : Rule s) (id : ℕ) (v : Vw) (t : ℕ) → get_elem? s.views id ≡ some v → tickets v ≡ t ∷ [] → t ≡ h.served → Home h.all h.count s.homes ⊎ (v.stage ≡ Held h.served)
  home_or_mine s h id v t at ticket now = ⊎_elim (λ x. inl x) (λ o. by_id o (ℕ_discrete o.0 id)) h.value
    where
      by_id : (o : IsOut h.served s.views) → Dec (o.0 ≡ id) → Home h.all h.count s.homes ⊎ (v.stage ≡ Held h.served)
      by_id o (yes e) = inr (ap (λ (u : Vw). u.stage) (some-injective v o.1 (sym at ∙ subst (λ j. get_elem? s.views j ≡ some o.1) e o.2)) ∙ o.3)
      by_id o (no ne) = absurd (let z = other_ticket s h id v t at ticket now o.0 o.1 ne o.2 in let k : count_in h.served (tickets o.1) ≡ count_in h.served (h.served ∷ []) = ap (λ st. count_in h.served (ticket_of st)) o.3 in omega (arith, z, k))

  home_at_turn : (s : St) (h : Rule s) (id : ℕ) (v : Vw) (t : ℕ) → get_elem? s.views id ≡ some v → v.stage ≡ Turn t → Home h.all h.count s.homes
  home_at_turn s h id v t at is = ⊎_elim (λ x. x) (λ e. absurd (let k : turn_mark (Turn t) ≡ turn_mark (Held h.served) = ap turn_mark (sym is ∙ e) in omega (arith, k))) (home_or_mine s h id v t at (ap ticket_of is) (turn_at s h id v (Turn t) at is))

  -- splitting
  pub tells : (id : ℕ) (v : Vw) → Splits Rule id v v (told v)
  tells id v s h at = subst (λ (l : List Vw). Rule (record { words = s.words; homes = s.homes; views = l ++ told v ∷ [] })) (sym (set_again s.views id v at)) (record {
    all = h.all;
    count = h.count;
    drawn = h.drawn;
    served = h.served;
    words_are = h.words_are;
    small = h.small;
    tickets_are = spread_blank tickets s.views (told v) h.served h.drawn refl h.tickets_are;
    numbers_are = spread_blank numbers s.views (told v) 1 (suc h.count) refl h.numbers_are;
    each = each_snoc (Knows by key h.all h.count h.served) s.views (told v) (record { about = (h.each id v at).about; seen = (h.each id v at).seen; made = (h.each id v at).made; heard = tt; owns = tt; known = tt; turn = tt }) h.each;
    others = h.others;
    value = ⊎_elim (λ x. inl x) (λ o. inr (o.0, o.1, at_longer s.views (told v ∷ []) o.0 o.1 o.2, o.3)) h.value;
  })

  -- joining
  pub joins : (id : ℕ) (v : Vw) (other : ℕ) (w : Vw) → v.stage ≡ Idle → w.stage ≡ Idle → Joins Rule id v other w (joined v w) spent_view
  joins id v other w iv iw s h at ne there =
      let there' : get_elem? s.views other ≡ some w = sym (set_else s.views id other (joined v w) ne) ∙ there in
      let kv = h.each id v at in let kw = h.each other w there' in
      let no_v : v.stage ≡ Held h.served → v.stage ≡ Held h.served = λ e. e in
      let no_w : w.stage ≡ Held h.served → Idle ≡ Held h.served = λ e. sym iw ∙ e in
      record {
        all = h.all;
        count = h.count;
        drawn = h.drawn;
        served = h.served;
        words_are = h.words_are;
        small = h.small;
        tickets_are = spread_join tickets s.views id other v w (joined v w) spent_view h.served h.drawn at there (sym (append-nil (tickets v)) ∙ ap (λ st. tickets v ++ ticket_of st) (sym iw)) refl h.tickets_are;
        numbers_are = spread_join numbers s.views id other v w (joined v w) spent_view 1 (suc h.count) at there (numbers_append v.accounts w.accounts) refl h.numbers_are;
        each = each_set (Knows by key h.all h.count h.served) (set s.views id (joined v w)) other spent_view
            (record { about = λ k e. absurd (cc); seen = (h.all, refl); made = omega arith; heard = tt; owns = tt; known = tt; turn = tt })
            (λ j u apart e. each_set (Knows by key h.all h.count h.served) s.views id (joined v w)
            (record {
              about = kv.about;
              seen = pick_either (Begins h.all) (nat_le (length v.seen) (length w.seen)) w.seen v.seen kw.seen kv.seen;
              made = omega (arith, kv.made, kw.made);
              heard = (kv.seen, (kw.seen, heard_append h.all v.heard w.heard kv.heard kw.heard));
              owns = owns_append by h.all v.accounts w.accounts kv.owns kw.owns;
              known = (let b = longer_begins h.all v.seen w.seen kv.seen kw.seen in let m = pick_either (Begins h.all) (nat_le (length v.seen) (length w.seen)) w.seen v.seen kw.seen kv.seen in
                  owns_append by (longer v.seen w.seen) v.accounts w.accounts (owns_between by h.all (longer v.seen w.seen) v.seen v.accounts m b.0 kv.owns kv.known) (owns_between by h.all (longer v.seen w.seen) w.seen w.accounts m b.1 kw.owns kw.known));
              turn = subst (HasTurn h.all h.count h.served (joined v w)) (sym iv) tt;
            })
            (λ i y _ e'. h.each i y e') j u e);
        others = h.others;
        value = ⊎_elim (λ x. inl x) (λ o. inr (out_set h.served (set s.views id (joined v w)) other w spent_view there no_w (out_set h.served s.views id v (joined v w) at no_v o))) h.value;
      }

  -- drawing a ticket
  pub draws : (slots id : ℕ) (me : Sat K E D) (old new : ℕ) → me.0.stage ≡ Idle → old < 18446744073709551615 → new ≡ old + 1 → Allows Rule slots id me 1 (λ n. either (eqb n old) new n) (drew (step slots 1 old new none) me)
  draws slots id me old new idle lt is s h deep at small =
      let drawn : get_or s.words 1 0 ≡ h.drawn = ap (λ (l : List ℕ). get_or l 1 0) h.words_are in
      elim (ℕ_discrete (get_or s.words 1 0) old) [
        | yes e ↦ (
          staged (Waits (get_or s.words 1 0)) me.0,
          keeps,
          tt,
          record {
            all = h.all;
            count = h.count;
            drawn = suc h.drawn;
            served = h.served;
            words_are = ap (λ (b : Bool). set s.words 1 (either b new (get_or s.words 1 0))) (eq-eqb (get_or s.words 1 0) old e) ∙ (λ i. set (h.words_are i) 1 ((let q : new ≡ suc h.drawn = omega (arith, is, drawn, e) in q) i));
            small = (h.small.0, omega (arith, lt, drawn, e));
            tickets_are = spread_more tickets s.views id me.0 (staged (Waits (get_or s.words 1 0)) me.0) h.served h.drawn at (λ i. drawn i ∷ ticket_of (sym idle i)) h.tickets_are;
            numbers_are = spread_same numbers s.views id me.0 (staged (Waits (get_or s.words 1 0)) me.0) 1 (suc h.count) at refl h.numbers_are;
            each = let k = h.each id me.0 at in each_set (Knows by key h.all h.count h.served) s.views id (staged (Waits (get_or s.words 1 0)) me.0) (record { about = k.about; seen = k.seen; made = k.made; heard = k.heard; owns = k.owns; known = k.known; turn = tt }) (λ j u ne q. h.each j u q);
            others = h.others;
            value = value_stays s h id me.0 (staged (Waits (get_or s.words 1 0)) me.0) at (λ q. absurd (let k : turn_mark Idle ≡ turn_mark (Held h.served) = ap turn_mark (sym idle ∙ q) in omega (arith, k)));
          },
          ((λ _. refl), (λ ne. absurd (ne e))),
        )
        | no ne ↦ (
          me.0,
          keeps,
          tt,
          stays s h id me.0 (set s.words 1 (either (eqb (get_or s.words 1 0) old) new (get_or s.words 1 0))) at
              (ap (λ (b : Bool). set s.words 1 (either b new (get_or s.words 1 0))) (ne_eqb (get_or s.words 1 0) old ne) ∙ ap (λ (l : List ℕ). set l 1 (get_or l 1 0)) h.words_are),
          ((λ e. absurd (ne e)), (λ _. refl)),
        )
      ]

  -- looking at the ticket that is served
  pub looks : (slots id : ℕ) (me : Sat K E D) (t : ℕ) → me.0.stage ≡ Waits t → Allows Rule slots id me 2 (λ n. n) (looked (step slots 2 0 0 none) me)
  looks slots id me t is s h deep at small =
      let served : get_or s.words 2 0 ≡ h.served = ap (λ (l : List ℕ). get_or l 2 0) h.words_are in
      let ws : set s.words 2 (get_or s.words 2 0) ≡ (length h.all + h.count) ∷ h.drawn ∷ h.served ∷ [] = ap (λ (l : List ℕ). set l 2 (get_or l 2 0)) h.words_are in
      let no_held : me.0.stage ≡ Held h.served → ⊥ = λ q. let k : turn_mark (Waits t) ≡ turn_mark (Held h.served) = ap turn_mark (sym is ∙ q) in omega (arith, k) in
      elim (ℕ_discrete (get_or s.words 2 0) (ticket_no me.0.stage)) [
        | yes e ↦ (
          staged (Turn (get_or s.words 2 0)) me.0,
          keeps,
          tt,
          restage s h id me.0 (staged (Turn (get_or s.words 2 0)) me.0) (set s.words 2 (get_or s.words 2 0)) s.homes at ws
              ((λ i. e i ∷ []) ∙ ap (λ st. ticket_no st ∷ []) is ∙ ap ticket_of (sym is)) refl
              (let k = h.each id me.0 at in record { about = k.about; seen = k.seen; made = k.made; heard = k.heard; owns = k.owns; known = k.known; turn = served })
              (value_stays s h id me.0 (staged (Turn (get_or s.words 2 0)) me.0) at (λ q. absurd (no_held q))),
          ((λ _. refl), (λ ne. absurd (ne e))),
        )
        | no ne ↦ (me.0, keeps, tt, stays s h id me.0 (set s.words 2 (get_or s.words 2 0)) at ws, ((λ e. absurd (ne e)), (λ _. refl)))
      ]

  -- passing the turn
  pub passes : (slots id : ℕ) (me : Sat K E D) (t new : ℕ) → me.0.stage ≡ Turn t → new ≡ t + 1 → Allows Rule slots id me 2 (λ _. new) (λ _. passed (step slots 2 new 0 none) me new)
  passes slots id me t new is next s h deep at small =
      let now : t ≡ h.served = turn_at s h id me.0 (Turn t) at is in
      let w : Vw = staged Idle me.0 in (
        w,
        keeps,
        tt,
        record {
          all = h.all;
          count = h.count;
          drawn = h.drawn;
          served = suc h.served;
          words_are = λ i. set (h.words_are i) 2 ((let q : new ≡ suc h.served = omega (arith, next, now) in q) i);
          small = h.small;
          tickets_are = spread_less tickets s.views id me.0 w h.served h.drawn at (ap ticket_of is ∙ (λ i. now i ∷ [])) h.tickets_are;
          numbers_are = spread_same numbers s.views id me.0 w 1 (suc h.count) at refl h.numbers_are;
          each = let k = h.each id me.0 at in each_set (Knows by key h.all h.count (suc h.served)) s.views id w (record { about = k.about; seen = k.seen; made = k.made; heard = k.heard; owns = k.owns; known = k.known; turn = tt })
              (λ j u ne q. let k = h.each j u q in record {
                about = k.about;
                seen = k.seen;
                made = k.made;
                heard = k.heard;
                owns = k.owns;
                known = k.known;
                turn = no_turn h.all h.all h.count h.count h.served (suc h.served) u u.stage (other_ticket s h id me.0 t at (ap ticket_of is) now j u ne q) k.turn;
              });
          others = h.others;
          value = inl (home_at_turn s h id me.0 t at is);
        },
        refl,
      )

  -- taking the value out
  pub takes_out : (slots id : ℕ) (me : Sat K E D) (t : ℕ) → me.0.stage ≡ Turn t → me.1 ≡ [] → Allows Rule slots id me 0 (λ n. n) (took by entries made suits (step slots 0 0 0 none) me)
  takes_out slots id me t is bare s h deep at small =
      let now : t ≡ h.served = turn_at s h id me.0 (Turn t) at is in
      let no : ticket_no me.0.stage ≡ h.served = ap ticket_no is ∙ now in
      let k = h.each id me.0 at in
      let home = home_at_turn s h id me.0 t at is in
      let y : D = home.0 in
      let w : Vw = caught_up (Held (ticket_no me.0.stage)) (entries y) (made y) me.0 in (
        w,
        takes 0 (Some y),
        ap (λ (l : List (maybe.Option (Option D))). get_elem? l 0) home.1,
        restage s h id me.0 w (set s.words 0 (get_or s.words 0 0)) (set s.homes 0 none) at (ap (λ (l : List ℕ). set l 0 (get_or l 0 0)) h.words_are)
            (ap (λ st. ticket_no st ∷ []) is ∙ ap ticket_of (sym is)) refl
            (record { about = k.about; seen = ([], sym (append-nil (entries y) ∙ home.2)); made = omega (arith, home.3); heard = k.heard; owns = k.owns; known = subst (λ (l : List E). Owns by l me.0.accounts) (sym home.2) k.owns; turn = (no, home.2, home.3) })
            (inr (id, w, set_there s.views id me.0 w at, ap Held no)),
        (
          y,
          (λ i. (w, (0, Some y) ∷ bare i)),
          subst (λ (l : List E). Begins l me.0.seen) (sym home.2) k.seen,
          omega (arith, home.3, k.made),
          subst (λ (l : List E). Owns by l me.0.accounts) (sym home.2) k.owns,
          (λ x e. subst (λ (z : K). suits z y) (sym (k.about x e)) home.4),
        ),
      )

  set_only : {A : Type 0} (l : List A) (a : A) → length l ≡ 1 → set l 0 a ≡ a ∷ []
  set_only [] a e = absurd (omega (arith, e))
  set_only (x ∷ []) a e = refl
  set_only (x ∷ y ∷ l) a e = absurd (omega (arith, e))

  -- giving it back
  pub gives_back : (slots id : ℕ) (me : Sat K E D) (t : ℕ) (y : D) (about : K) → slots ≡ 1 → me.0.stage ≡ Held t → me.1 ≡ (0, Some y) ∷ [] → entries y ≡ me.0.seen → made y ≡ me.0.made → me.0.about ≡ Some about → suits about y
      → Allows Rule slots id me 0 (λ n. n) (gave (step slots 0 0 0 none) me)
  gives_back slots id me t y about one is full ey my ab su s h deep at small =
      let turn = turn_at s h id me.0 (Held t) at is in
      let k = h.each id me.0 at in
      let w : Vw = staged (Turn (ticket_no me.0.stage)) me.0 in (
        w,
        gives,
        tt,
        restage s h id me.0 w (set s.words 0 (get_or s.words 0 0)) (put_back s.homes me.1) at (ap (λ (l : List ℕ). set l 0 (get_or l 0 0)) h.words_are)
            (ap (λ st. ticket_no st ∷ []) is ∙ ap ticket_of (sym is)) refl
            (record { about = k.about; seen = k.seen; made = k.made; heard = k.heard; owns = k.owns; known = k.known; turn = ap ticket_no is ∙ turn.0 })
            (inl (y, ap (put_back s.homes) full ∙ set_only s.homes (some (Some y)) (deep ∙ one), ey ∙ turn.1, my ∙ turn.2, subst (λ (z : K). suits z y) (k.about about ab) su)),
        (λ i. (w, rest (full i))),
      )

  snoc_same : (l : List E) (a b : E) → l ++ a ∷ [] ≡ l ++ b ∷ [] → a ≡ b
  snoc_same l a b e = some-injective a b (sym (at_last l a (length l) refl) ∙ ap (λ (x : List E). get_elem? x (length l)) e ∙ at_last l b (length l) refl)

  abbrev held_or : D → Option D → D
  held_or d None = d
  held_or d (Some y) = y

  abbrev first_or : D → List (ℕ × Option D) → D
  first_or d [] = d
  first_or d (x ∷ xs) = held_or d x.1

  nonempty : (l : List (Account E)) → 0 < first_number l → (a : Account E) × (rest : List (Account E)) × (l ≡ a ∷ rest)
  nonempty [] h = absurd (omega (arith, h))
  nonempty (a ∷ rest) h = (a, rest, refl)

  add_number : (e : E) (l : List (Account E)) → map number_of (add_own e l) ≡ map number_of l
  add_number e [] = refl
  add_number e (a ∷ rest) = refl

  -- an entry under one of these numbers is under no other
  in_range : (s : St) (h : Rule s) (id : ℕ) (v : Vw) (n : ℕ) → get_elem? s.views id ≡ some v → 0 < count_in n (numbers v) → ((0 < n → n ≤ h.count → ⊥) → ⊥)
  in_range s h id v n at p out = let r = spread_range numbers s.views id v 1 (suc h.count) n at p h.numbers_are in out (omega (arith, r)) (omega (arith, r))

  -- adding one, for an entry
  pub adds : (slots id : ℕ) (me : Sat K E D) (t : ℕ) (y : D) (e : E) → me.0.stage ≡ Held t → me.1 ≡ (0, Some y) ∷ [] → entries y ≡ me.0.seen ++ e ∷ [] → 0 < by e → first_number me.0.accounts ≡ by e → length me.0.seen + me.0.made < 2 ^ 63
      → Allows Rule slots id me 0 (λ n. (n + 1) % 2 ^ 64) (added by entries (step slots 0 1 0 none) me)
  adds slots id me t y e is full ey pos first room s h deep at small =
      let turn = turn_at s h id me.0 (Held t) at is in
      let k = h.each id me.0 at in
      let ne = nonempty me.0.accounts (omega (arith, pos, first)) in
      let w : Vw = recorded e me.0 in
      let more : List E = h.all ++ e ∷ [] in
      let sum : get_or s.words 0 0 ≡ length h.all + h.count = ap (λ (l : List ℕ). get_or l 0 0) h.words_are in
      let seen_len : length me.0.seen ≡ length h.all = ap length turn.1 in
      let longer_by : length more ≡ length h.all + 1 = length-append h.all (e ∷ []) in
      let now : (get_or s.words 0 0 + 1) % 2 ^ 64 ≡ length more + h.count = omega (arith, sum, seen_len, longer_by, room, turn.2) in
      let ns : numbers me.0 ≡ ne.0.number ∷ map number_of ne.1 = ap (map number_of) ne.2 in
      let head : by e ≡ ne.0.number = sym first ∙ ap first_number ne.2 in
      let hit : 0 < count_in (by e) (numbers me.0) = let q : count_in (by e) (numbers me.0) ≡ count_in (by e) (ne.0.number ∷ map number_of ne.1) = ap (count_in (by e)) ns in omega (arith, q, head) in
      let once : count_in (by e) (map number_of ne.1) ≡ 0 =
      let q : count_in (by e) (numbers me.0) ≡ count_in (by e) (ne.0.number ∷ map number_of ne.1) = ap (count_in (by e)) ns in
      let b = h.numbers_are.0 (by e) in let d = tally_at numbers (by e) s.views id me.0 at in omega (arith, q, head, b, d) in
      let owned : Owns by more (add_own e me.0.accounts) = subst (λ (l : List (Account E)). Owns by more (add_own e l)) (sym ne.2) (owns_one_more by h.all e ne.0 ne.1 head once (subst (Owns by h.all) ne.2 k.owns)) in (
        w,
        keeps,
        tt,
        record {
          all = more;
          count = h.count;
          drawn = h.drawn;
          served = h.served;
          words_are = λ i. set (h.words_are i) 0 (now i);
          small = (omega (arith, seen_len, longer_by, room, turn.2), h.small.1);
          tickets_are = spread_same tickets s.views id me.0 w h.served h.drawn at refl h.tickets_are;
          numbers_are = spread_same numbers s.views id me.0 w 1 (suc h.count) at (add_number e me.0.accounts) h.numbers_are;
          each = each_set (Knows by key more h.count h.served) s.views id w
              (record {
                about = k.about;
                seen = ([], (λ i. sym turn.1 i ++ e ∷ []) ∙ sym (append-nil (me.0.seen ++ e ∷ [])));
                made = k.made;
                heard = heard_more h.all me.0.heard e k.heard;
                owns = owned;
                known = subst (λ (l : List E). Owns by (l ++ e ∷ []) (add_own e me.0.accounts)) (sym turn.1) owned;
                turn = subst (HasTurn more h.count h.served w) (sym is) (turn.0, (λ i. turn.1 i ++ e ∷ []), turn.2);
              })
              (λ j u apart q. let x = h.each j u q in record {
                about = x.about;
                seen = begins_more h.all u.seen e x.seen;
                made = x.made;
                heard = heard_more h.all u.heard e x.heard;
                owns = owns_more by h.all e u.accounts (spread_apart numbers s.views id j me.0 u 1 (suc h.count) (by e) (λ z. apart (sym z)) at q hit h.numbers_are) x.owns;
                known = x.known;
                turn = no_turn h.all more h.count h.count h.served h.served u u.stage (other_ticket s h id me.0 t at (ap ticket_of is) turn.0 j u apart q) x.turn;
              });
          others = λ n out. calls_miss by n h.all e (λ q. in_range s h id me.0 (by e) at hit (λ a b. out (omega (arith, a, q)) (omega (arith, b, q)))) ∙ h.others n out;
          value = inr (id, w, set_there s.views id me.0 w at, is ∙ ap Held turn.0);
        },
        (λ y' e' full' ey'.
            let yy : y ≡ y' = ap (first_or y) (sym full ∙ full') in
            let ee : e ≡ e' = snoc_same me.0.seen e e' (sym ey ∙ ap entries yy ∙ ey') in
            ((λ i. (recorded (ee i) me.0, me.1)), subst (λ (x : E). Owns by (me.0.seen ++ x ∷ []) (add_own x me.0.accounts)) ee (subst (λ (l : List E). Owns by (l ++ e ∷ []) (add_own e me.0.accounts)) (sym turn.1) owned))),
      )

  -- adding one, for a seat
  pub makes : (slots id : ℕ) (me : Sat K E D) (t : ℕ) → me.0.stage ≡ Held t → length me.0.seen + me.0.made < 2 ^ 63
      → Allows Rule slots id me 0 (λ n. (n + 1) % 2 ^ 64) (was_numbered (step slots 0 1 0 none) me)
  makes slots id me t is room s h deep at small =
      let turn = turn_at s h id me.0 (Held t) at is in
      let k = h.each id me.0 at in
      let w : Vw = numbered me.0 in
      let sum : get_or s.words 0 0 ≡ length h.all + h.count = ap (λ (l : List ℕ). get_or l 0 0) h.words_are in
      let seen_len : length me.0.seen ≡ length h.all = ap length turn.1 in
      let now : (get_or s.words 0 0 + 1) % 2 ^ 64 ≡ length h.all + suc h.count = omega (arith, sum, seen_len, room, turn.2) in (
        w,
        keeps,
        tt,
        record {
          all = h.all;
          count = suc h.count;
          drawn = h.drawn;
          served = h.served;
          words_are = λ i. set (h.words_are i) 0 (now i);
          small = (omega (arith, seen_len, room, turn.2), h.small.1);
          tickets_are = spread_same tickets s.views id me.0 w h.served h.drawn at refl h.tickets_are;
          numbers_are = spread_more numbers s.views id me.0 w 1 (suc h.count) at (λ i. suc (turn.2 i) ∷ map number_of me.0.accounts) h.numbers_are;
          each = each_set (Knows by key h.all (suc h.count) h.served) s.views id w
              (record {
                about = k.about;
                seen = k.seen;
                made = omega (arith, k.made);
                heard = k.heard;
                owns = (h.others (suc me.0.made) (λ a b. omega (arith, b, turn.2)), k.owns);
                known = (subst (λ (l : List E). calls_of by (suc me.0.made) l ≡ []) (sym turn.1) (h.others (suc me.0.made) (λ a b. omega (arith, b, turn.2))), k.known);
                turn = subst (HasTurn h.all (suc h.count) h.served w) (sym is) (turn.0, turn.1, ap suc turn.2);
              })
              (λ j u apart q. let x = h.each j u q in record {
                about = x.about;
                seen = x.seen;
                made = omega (arith, x.made);
                heard = x.heard;
                owns = x.owns;
                known = x.known;
                turn = no_turn h.all h.all h.count (suc h.count) h.served h.served u u.stage (other_ticket s h id me.0 t at (ap ticket_of is) turn.0 j u apart q) x.turn;
              });
          others = λ n out. h.others n (λ a b. out a (omega (arith, b)));
          value = inr (id, w, set_there s.views id me.0 w at, is ∙ ap Held turn.0);
        },
        refl,
      )

  -- the first seat
  pub begins : (y : D) → entries y ≡ [] → made y ≡ 1 → suits key y → Rule (opening (1 ∷ 0 ∷ 0 ∷ []) (Some y ∷ []) (newcomer key))
  begins y ey my su = record {
    all = [];
    count = 1;
    drawn = 0;
    served = 0;
    words_are = refl;
    small = (omega arith, omega arith);
    tickets_are = ((λ n. omega arith), omega arith);
    numbers_are = ((λ n. omega arith), omega arith);
    each = each_set (Knows by key [] 1 0) (newcomer key ∷ []) 0 (newcomer key)
        (record { about = λ k e. some_same k e; seen = ([], refl); made = omega arith; heard = tt; owns = (refl, tt); known = (refl, tt); turn = tt })
        (λ j u ne e. absurd (only j u ne e));
    others = λ n out. refl;
    value = inl (y, refl, ey, my, su);
  }
    where
      or_key : K → Option K → K
      or_key k None = k
      or_key k (Some x) = x

      some_same : (k : K) → Some key ≡ Some k → k ≡ key
      some_same k e = ap (or_key k) (sym e)

      only : (j : ℕ) (u : Vw) → j ≢ 0 → get_elem? (newcomer key ∷ []) j ≡ some u → ⊥
      only zero u ne e = ne refl
      only (suc j) u ne e = some-ne-none u (sym e)
