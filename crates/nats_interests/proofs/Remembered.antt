-- What is remembered of interests.
use Rattle.std.proofs.Common.{◌≡◌, ℕ, zero, suc, ◌+◌, ◌<◌, ◌≤◌, Bool, true, false, not, ◌&&◌, ◌||◌, List, [], ◌∷◌, ◌++◌, length, take, drop, map, filter, get_or, slice_set, Option, Some, None, ◌⊎◌, inl, inr, ⊎_elim, ne_eqb, refl, ap, sym, ◌∙◌, subst, arith, append_assoc, append-nil, length-append, length-take}
use Rattle.std.specs.Prelude.{◌==◌, slice_get, if◌then◌else◌}
use Rattle.std.specs.Option.{unwrap_or}
use Rattle.std.proofs.Math.Seq.{drop-cons, take-suc}
use Rattle.std.proofs.lemmas.List.{take-append-drop, take-append-le}
use Rattle.std.proofs.lemmas.List.Elements.{filter-append}
use Rattle.std.specs.List.{take-map}
use Rattle.std.proofs.lemmas.Bool.{false≢true, eq-eqb}
use Rattle.std.proofs.lemmas.Nat.{mod_below}
use Rattle.nats_interests.specs.declared.interest.Interest.{Interest}
use Rattle.nats_interests.specs.Index.{pattern_of, is_match, has_mark, mix_of, slot_of, places, is_in_slot, IndexSeen, Remembers, below, above, merged, candidates, onto_gathered, gathered, put_in, AreEmpty, learned, IsFresh}
use Rattle.nats_interests.proofs.Merging.{together, gathers}
use Rattle.nats_interests.proofs.Literal.{matches_itself}

-- ---- slots

pub put_at : (slots : List (List ℕ)) (s k : ℕ) (d : List ℕ) → s < length slots → slice_set slots s (get_or slots s d ++ k ∷ []) ≡ put_in s k slots
put_at [] s k d inside = absurd (omega (arith, inside))
put_at (slot ∷ slots) zero k d inside = refl
put_at (slot ∷ slots) (suc s) k d inside = ap (λ xs. slot ∷ xs) (put_at slots s k d (omega (arith, inside)))

pub kept_at : (slots : List (List ℕ)) (s : ℕ) (d : List ℕ) → s < length slots → slice_set slots s (get_or slots s d) ≡ slots
kept_at [] s d inside = absurd (omega (arith, inside))
kept_at (slot ∷ slots) zero d inside = refl
kept_at (slot ∷ slots) (suc s) d inside = ap (λ xs. slot ∷ xs) (kept_at slots s d (omega (arith, inside)))

pub put_past : (slots : List (List ℕ)) (s k : ℕ) → length slots ≤ s → put_in s k slots ≡ slots
put_past [] s k over = refl
put_past (slot ∷ slots) zero k over = absurd (omega (arith, over))
put_past (slot ∷ slots) (suc s) k over = ap (λ xs. slot ∷ xs) (put_past slots s k (omega (arith, over)))

put_length : (slots : List (List ℕ)) (s k : ℕ) → length (put_in s k slots) ≡ length slots
put_length [] s k = refl
put_length (slot ∷ slots) zero k = refl
put_length (slot ∷ slots) (suc s) k = ap suc (put_length slots s k)

pub empty_more : (slots : List (List ℕ)) → AreEmpty slots → AreEmpty (slots ++ [] ∷ [])
empty_more [] are = (refl, tt)
empty_more (slot ∷ slots) are = (are.0, empty_more slots are.1)

empty_slot : (slots : List (List ℕ)) (s : ℕ) (slot : List ℕ) → AreEmpty slots → slice_get slots s ≡ Some slot → slot ≡ []
empty_slot [] s slot are at = cc
empty_slot (a ∷ slots) zero slot are at = let same : a ≡ slot = cc in sym same ∙ are.0
empty_slot (a ∷ slots) (suc s) slot are at = empty_slot slots s slot are.1 at

pub fresh : (patterns : List (List ℕ)) (index : IndexSeen) → IsFresh index → Remembers patterns index
fresh patterns index is = record {
  within = omega (arith, is.1);
  has_slots = λ none. is.1;
  marked_places = is.0 ∙ ap (λ n. places 0 has_mark (take n patterns)) (sym is.1);
  slot_places = λ s slot at. empty_slot index.slots s slot is.2 at ∙ ap (λ n. places 0 (is_in_slot (length index.slots) s) (take n patterns)) (sym is.1);
}

-- ---- one more is remembered

places_more : (k : ℕ) (test : List ℕ → Bool) (ps : List (List ℕ)) (p : List ℕ)
    → places k test (ps ++ p ∷ []) ≡ places k test ps ++ (if test p then (k + length ps) ∷ [] else [])
places_more k test [] p = let e : k + 0 ≡ k = omega arith in ap (λ n. if test p then n ∷ [] else []) (sym e)
places_more k test (q ∷ ps) p = by (test q)
    (places_more (suc k) test ps p ∙ (let e : suc k + length ps ≡ k + suc (length ps) = omega arith in ap (λ n. places (suc k) test ps ++ (if test p then n ∷ [] else [])) e))
  where
    end : List ℕ
    end = if test p then (k + suc (length ps)) ∷ [] else []

    by : (b : Bool) → places (suc k) test (ps ++ p ∷ []) ≡ places (suc k) test ps ++ end
        → (if b then k ∷ places (suc k) test (ps ++ p ∷ []) else places (suc k) test (ps ++ p ∷ []))
        ≡ (if b then k ∷ places (suc k) test ps else places (suc k) test ps) ++ end
    by true later = ap (λ ns. k ∷ ns) later
    by false later = later

more_places : (test : List ℕ → Bool) (ps : List (List ℕ)) (n : ℕ) (d : List ℕ) (b : Bool) → n < length ps → test (get_or ps n d) ≡ b
    → places 0 test (take (suc n) ps) ≡ places 0 test (take n ps) ++ (if b then n ∷ [] else [])
more_places test ps n d b inside is =
    let size : 0 + length (take n ps) ≡ n = omega (arith, length-take n ps, inside) in
    ap (places 0 test) (take-suc ps n d inside)
    ∙ places_more 0 test (take n ps) (get_or ps n d)
    ∙ ap (λ m. places 0 test (take n ps) ++ (if test (get_or ps n d) then m ∷ [] else [])) size
    ∙ ap (λ c. places 0 test (take n ps) ++ (if c then n ∷ [] else [])) is

put_other : (slots : List (List ℕ)) (s t k : ℕ) → (s ≡ t → ⊥) → slice_get (put_in s k slots) t ≡ slice_get slots t
put_other [] s t k other = refl
put_other (slot ∷ slots) zero zero k other = absurd (other refl)
put_other (slot ∷ slots) zero (suc t) k other = refl
put_other (slot ∷ slots) (suc s) zero k other = refl
put_other (slot ∷ slots) (suc s) (suc t) k other = put_other slots s t k (λ same. other (ap suc same))

put_same : (slots : List (List ℕ)) (s k : ℕ) (slot : List ℕ) → slice_get (put_in s k slots) s ≡ Some slot
    → (old : List ℕ) × (slice_get slots s ≡ Some old) × (slot ≡ old ++ k ∷ [])
put_same [] s k slot at = cc
put_same (a ∷ slots) zero k slot at = (a, refl, (let same : a ++ k ∷ [] ≡ slot = cc in sym same))
put_same (a ∷ slots) (suc s) k slot at = put_same slots s k slot at

nil_end : (xs : List ℕ) (b : Bool) → b ≡ false → (n : ℕ) → xs ++ (if b then n ∷ [] else []) ≡ xs
nil_end xs b is n = ap (λ c. xs ++ (if c then n ∷ [] else [])) is ∙ append-nil xs

learns_marked : (patterns : List (List ℕ)) (index : IndexSeen) (d : List ℕ) → Remembers patterns index → index.seen < length patterns → 0 < length index.slots
    → has_mark (get_or patterns index.seen d) ≡ true
    → Remembers patterns (record index { marked = index.marked ++ index.seen ∷ []; seen = suc index.seen })
learns_marked patterns index d r inside some is = record {
  within = omega (arith, inside);
  has_slots = λ none. absurd (omega (arith, none, some));
  marked_places = ap (λ ns. ns ++ index.seen ∷ []) r.marked_places ∙ sym (more_places has_mark patterns index.seen d true inside is);
  slot_places = λ s slot at. r.slot_places s slot at
      ∙ sym (more_places (is_in_slot (length index.slots) s) patterns index.seen d false inside (ap (λ b. not b && (slot_of (length index.slots) (get_or patterns index.seen d) == s)) is)
      ∙ append-nil (places 0 (is_in_slot (length index.slots) s) (take index.seen patterns)));
}

abbrev into_slot : IndexSeen → List ℕ → IndexSeen
into_slot index pattern = record index { slots = put_in (slot_of (length index.slots) pattern) index.seen index.slots; seen = suc index.seen }

by_number : (p q : ℕ) → (p ≡ q) ⊎ (p ≡ q → ⊥)
by_number zero zero = inl refl
by_number zero (suc q) = inr (λ same. omega (arith, same))
by_number (suc p) zero = inr (λ same. omega (arith, same))
by_number (suc p) (suc q) = ⊎_elim (λ same. inl (ap suc same)) (λ other. inr (λ same. other (omega (arith, same)))) (by_number p q)

learns_slot : (patterns : List (List ℕ)) (index : IndexSeen) (d : List ℕ) → Remembers patterns index → index.seen < length patterns → 0 < length index.slots
    → has_mark (get_or patterns index.seen d) ≡ false → Remembers patterns (into_slot index (get_or patterns index.seen d))
learns_slot patterns index d r inside some is = record {
  within = omega (arith, inside);
  has_slots = λ none. absurd (omega (arith, none, some, put_length index.slots own index.seen));
  marked_places = r.marked_places ∙ sym (more_places has_mark patterns index.seen d false inside is ∙ append-nil (places 0 has_mark (take index.seen patterns)));
  slot_places = λ s slot at. ⊎_elim (same s slot at) (other s slot at) (by_number own s)
      ∙ ap (λ n. places 0 (is_in_slot n s) (take (suc index.seen) patterns)) (sym (put_length index.slots own index.seen));
}
  where
    p : List ℕ
    p = get_or patterns index.seen d

    slots : ℕ
    slots = length index.slots

    own : ℕ
    own = slot_of slots p

    kind : (s : ℕ) (b : Bool) → (own == s) ≡ b → is_in_slot slots s p ≡ b
    kind s b at = ap (λ c. not c && (own == s)) is ∙ at

    same : (s : ℕ) (slot : List ℕ) → slice_get (put_in own index.seen index.slots) s ≡ Some slot → own ≡ s
        → slot ≡ places 0 (is_in_slot slots s) (take (suc index.seen) patterns)
    same s slot at eq =
        let old = put_same index.slots own index.seen slot (ap (λ n. slice_get (put_in own index.seen index.slots) n) eq ∙ at) in
        old.2
        ∙ ap (λ ns. ns ++ index.seen ∷ []) (r.slot_places s old.0 (ap (λ n. slice_get index.slots n) (sym eq) ∙ old.1))
        ∙ sym (more_places (is_in_slot slots s) patterns index.seen d true inside (kind s true (eq-eqb own s eq)))

    other : (s : ℕ) (slot : List ℕ) → slice_get (put_in own index.seen index.slots) s ≡ Some slot → (own ≡ s → ⊥)
        → slot ≡ places 0 (is_in_slot slots s) (take (suc index.seen) patterns)
    other s slot at ne =
        r.slot_places s slot (sym (put_other index.slots own s index.seen ne) ∙ at)
        ∙ sym (more_places (is_in_slot slots s) patterns index.seen d false inside (kind s false (ne_eqb own s ne)) ∙ append-nil (places 0 (is_in_slot slots s) (take index.seen patterns)))

pub learns : (patterns : List (List ℕ)) (index : IndexSeen) (d : List ℕ) (next : ℕ) → Remembers patterns index → index.seen < length patterns → 0 < length index.slots
    → next ≡ suc index.seen → Remembers patterns (learned (get_or patterns index.seen d) next index)
learns patterns index d next r inside some is =
    subst (λ n. Remembers patterns (learned (get_or patterns index.seen d) n index)) (sym is) (by (has_mark (get_or patterns index.seen d)) refl)
  where
    p : List ℕ
    p = get_or patterns index.seen d

    by : (b : Bool) → has_mark p ≡ b
        → Remembers patterns (if b then record index { marked = index.marked ++ index.seen ∷ []; seen = suc index.seen }
        else record index { slots = put_in (slot_of (length index.slots) p) index.seen index.slots; seen = suc index.seen })
    by true at = learns_marked patterns index d r inside some at
    by false at = learns_slot patterns index d r inside some at

-- ---- more interests

pub more_remembered : (patterns more : List (List ℕ)) (index : IndexSeen) → Remembers patterns index → Remembers (patterns ++ more) index
more_remembered patterns more index r =
    let same : take index.seen (patterns ++ more) ≡ take index.seen patterns = take-append-le index.seen patterns more r.within in
    record {
      within = omega (arith, r.within, length-append patterns more);
      has_slots = r.has_slots;
      marked_places = r.marked_places ∙ ap (places 0 has_mark) (sym same);
      slot_places = λ s slot at. r.slot_places s slot at ∙ ap (places 0 (is_in_slot (length index.slots) s)) (sym same);
    }

-- ---- what is found

slot_apart : (slots s : ℕ) (p : List ℕ) → is_in_slot slots s p ≡ true → has_mark p ≡ false
slot_apart slots s p is = by (has_mark p) refl
  where
    by : (b : Bool) → has_mark p ≡ b → b ≡ false
    by false at = refl
    by true at = absurd (false≢true (sym (ap (λ c. not c && (slot_of slots p == s)) at) ∙ is))

may_match : (slots : ℕ) (subject : List ℕ) (i : Interest) → is_match subject i ≡ true
    → (is_in_slot slots (slot_of slots subject) (pattern_of i) || has_mark (pattern_of i)) ≡ true
may_match slots subject i is = by (has_mark (pattern_of i)) refl
  where
    s : ℕ
    s = slot_of slots subject

    by : (b : Bool) → has_mark (pattern_of i) ≡ b → ((not b && (slot_of slots (pattern_of i) == s)) || b) ≡ true
    by true at = refl
    by false at =
        let same : slot_of slots (pattern_of i) ≡ s = ap (slot_of slots) (matches_itself (pattern_of i) subject at is) in
        ap (λ c. c || false) (eq-eqb (slot_of slots (pattern_of i)) s same)

none_there : (slots : List (List ℕ)) (s : ℕ) → slice_get slots s ≡ None → s < length slots → ⊥
none_there [] s at inside = omega (arith, inside)
none_there (slot ∷ slots) zero at inside = cc
none_there (slot ∷ slots) (suc s) at inside = none_there slots s at (omega (arith, inside))

slot_within : (slots : ℕ) (text : List ℕ) → 0 < slots → slot_of slots text < slots
slot_within slots text some = mod_below (mix_of text) slots some

some_slots : (patterns : List (List ℕ)) (index : IndexSeen) → Remembers patterns index → 0 < length index.slots ⊎ (index.seen ≡ 0)
some_slots patterns index r = by (length index.slots) refl
  where
    by : (n : ℕ) → length index.slots ≡ n → 0 < length index.slots ⊎ (index.seen ≡ 0)
    by zero at = inr (r.has_slots at)
    by (suc n) at = inl (omega (arith, at))

slot_places_at : (patterns : List (List ℕ)) (index : IndexSeen) (subject : List ℕ) (found : Option (List ℕ)) → Remembers patterns index
    → slice_get index.slots (slot_of (length index.slots) subject) ≡ found → 0 < length index.slots ⊎ (index.seen ≡ 0)
    → unwrap_or found [] ≡ places 0 (is_in_slot (length index.slots) (slot_of (length index.slots) subject)) (take index.seen patterns)
slot_places_at patterns index subject (Some slot) r at either = r.slot_places (slot_of (length index.slots) subject) slot at
slot_places_at patterns index subject None r at (inr none) = ap (λ n. places 0 (is_in_slot (length index.slots) (slot_of (length index.slots) subject)) (take n patterns)) (sym none)
slot_places_at patterns index subject None r at (inl some) =
    absurd (none_there index.slots (slot_of (length index.slots) subject) at (slot_within (length index.slots) subject some))

pub finds_all : (subject : List ℕ) (rows : List Interest) (index : IndexSeen) → Remembers (map pattern_of rows) index
    → gathered (is_match subject) rows (candidates subject index) ++ filter (is_match subject) (drop index.seen rows) ≡ filter (is_match subject) rows
finds_all subject rows index r =
    ap (λ ns. gathered test rows ns ++ filter test (drop index.seen rows)) all_places
    ∙ ap (λ xs. xs ++ filter test (drop index.seen rows)) (gathers test may (may_match slots subject) rows [] (take index.seen rows) 0 refl (drop index.seen rows) (sym (take-append-drop index.seen rows)))
    ∙ sym (filter-append test (take index.seen rows) (drop index.seen rows))
    ∙ ap (filter test) (take-append-drop index.seen rows)
  where
    test : Interest → Bool
    test = is_match subject

    slots : ℕ
    slots = length index.slots

    s : ℕ
    s = slot_of slots subject

    may : List ℕ → Bool
    may p = is_in_slot slots s p || has_mark p

    all_places : candidates subject index ≡ places 0 may (map pattern_of (take index.seen rows))
    all_places =
        ap (λ ns. merged ns index.marked) (slot_places_at (map pattern_of rows) index subject (slice_get index.slots s) r refl (some_slots (map pattern_of rows) index r))
        ∙ ap (λ ns. merged (places 0 (is_in_slot slots s) (take index.seen (map pattern_of rows))) ns) r.marked_places
        ∙ together (is_in_slot slots s) has_mark (slot_apart slots s) 0 (take index.seen (map pattern_of rows))
        ∙ ap (places 0 may) (take-map pattern_of index.seen rows)

-- ---- loops

pub merge_step : (all some left : List ℕ) (i k : ℕ) → i < length some → k ≡ get_or some i 0
    → all ++ below k left ++ k ∷ [] ++ merged (drop (i + 1) some) (above k left) ≡ all ++ merged (drop i some) left
merge_step all some left i k inside is =
    let e : i + 1 ≡ suc i = omega arith in
    let front : drop i some ≡ k ∷ drop (i + 1) some = drop-cons some i 0 inside ∙ ap (λ n. n ∷ drop (suc i) some) (sym is) ∙ ap (λ n. k ∷ drop n some) (sym e) in
    ap (λ xs. xs ++ merged (drop (i + 1) some) (above k left)) (append_assoc all (below k left) (k ∷ []))
    ∙ append_assoc all (below k left ++ k ∷ []) (merged (drop (i + 1) some) (above k left))
    ∙ ap (λ xs. all ++ xs) (append_assoc (below k left) (k ∷ []) (merged (drop (i + 1) some) (above k left)) ∙ ap (λ ks. merged ks left) (sym front))

put_next : (b : Bool) (i : Interest) (more : List Interest) → (if b then i ∷ more else more) ≡ (if b then i ∷ [] else []) ++ more
put_next true i more = refl
put_next false i more = refl

onto_next : (test : Interest → Bool) (found : Option Interest) (more : List Interest) → onto_gathered test found more ≡ onto_gathered test found [] ++ more
onto_next test None more = refl
onto_next test (Some i) more = put_next (test i) i more

gathered_next : (test : Interest → Bool) (rows : List Interest) (k : ℕ) (ks : List ℕ)
    → gathered test rows (k ∷ ks) ≡ gathered test rows (k ∷ []) ++ gathered test rows ks
gathered_next test rows k ks = onto_next test (slice_get rows k) (gathered test rows ks)

pub gather_step : (test : Interest → Bool) (rows found : List Interest) (ks : List ℕ) (i : ℕ) → i < length ks
    → found ++ gathered test rows (get_or ks i 0 ∷ []) ++ gathered test rows (drop (i + 1) ks) ≡ found ++ gathered test rows (drop i ks)
gather_step test rows found ks i inside =
    let e : i + 1 ≡ suc i = omega arith in
    let front : drop i ks ≡ get_or ks i 0 ∷ drop (i + 1) ks = drop-cons ks i 0 inside ∙ ap (λ n. get_or ks i 0 ∷ drop n ks) (sym e) in
    append_assoc found (gathered test rows (get_or ks i 0 ∷ [])) (gathered test rows (drop (i + 1) ks))
    ∙ ap (λ xs. found ++ xs) (sym (gathered_next test rows (get_or ks i 0) (drop (i + 1) ks)) ∙ ap (gathered test rows) (sym front))

pub none_put : (test : Interest → Bool) (xs : List Interest) (found : Option Interest) → found ≡ None → xs ≡ xs ++ onto_gathered test found []
none_put test xs found is = sym (append-nil xs) ∙ ap (λ o. xs ++ onto_gathered test o []) (sym is)

pattern_at : (rows : List Interest) (k : ℕ) (x : Interest) → k < length rows → x ≡ get_or rows k x → pattern_of x ≡ get_or (map pattern_of rows) k (pattern_of x)
pattern_at [] k x inside is = absurd (omega (arith, inside))
pattern_at (a ∷ rows) zero x inside is = ap pattern_of is
pattern_at (a ∷ rows) (suc k) x inside is = pattern_at rows k x (omega (arith, inside)) is

learned_seen : (p : List ℕ) (next : ℕ) (index : IndexSeen) → (learned p next index).seen ≡ next
learned_seen p next index = by (has_mark p)
  where
    by : (b : Bool) → (if b then record index { marked = index.marked ++ index.seen ∷ []; seen = next }
        else record index { slots = put_in (slot_of (length index.slots) p) index.seen index.slots; seen = next }).seen ≡ next
    by true = refl
    by false = refl

map_length : (rows : List Interest) → length (map pattern_of rows) ≡ length rows
map_length [] = refl
map_length (x ∷ rows) = ap suc (map_length rows)

pub learned_on : (rows : List Interest) (index new : IndexSeen) (k : ℕ) (x : Interest) (p : List ℕ) → (k ≡ index.seen) × Remembers (map pattern_of rows) index
    → k < length rows → x ≡ get_or rows k x → p ≡ pattern_of x → 0 < length index.slots → new ≡ learned p (k + 1) index
    → (k + 1 ≡ new.seen) × Remembers (map pattern_of rows) new
learned_on rows index new k x p before inside at is some now = (
  sym (ap (λ (n : IndexSeen). n.seen) now ∙ learned_seen p (k + 1) index),
  subst (Remembers patterns) (sym now) (subst (λ q. Remembers patterns (learned q (k + 1) index)) (sym here)
      (learns patterns index (pattern_of x) (k + 1) before.1 (omega (arith, inside, before.0, map_length rows)) some (omega (arith, before.0)))),
)
  where
    patterns : List (List ℕ)
    patterns = map pattern_of rows

    here : p ≡ get_or patterns index.seen (pattern_of x)
    here = is ∙ pattern_at rows k x inside at ∙ ap (λ n. get_or patterns n (pattern_of x)) before.0
