-- One interest is changed where it stands; the others stay.
use Rattle.std.proofs.Common.{◌≡◌, ℕ, zero, suc, Bool, true, false, not, ◌&&◌, ◌||◌, List, [], ◌∷◌, ◌++◌, map, filter, slice_set, Option, Some, refl, ap, sym, ◌∙◌, subst}
use Rattle.std.specs.Prelude.{◌==◌, slice_get, if◌then◌else◌}
use Rattle.std.specs.List.{list_any, remove}
use Rattle.std.proofs.lemmas.Bool.{false≢true, eqb-true, eq-eqb}
use Rattle.nats_interests.specs.declared.interest.Interest.{Interest}
use Rattle.nats_interests.specs.declared.interests.Change.{Change}
use Rattle.nats_interests.specs.declared.interests.Change.TheVariants.{Count, Limit}
use Rattle.nats_interests.specs.Changes.{changed}
use Rattle.std.proofs.lemmas.List.{map-append}
use Rattle.nats_interests.specs.Index.{pattern_of, IndexSeen, Remembers}
use Rattle.nats_interests.proofs.Remembered.{more_remembered}
use Rattle.nats_interests.specs.Interests.{is_of, is_open, altered, new_interest, without_peer, AreDistinct, AreOpen, AreKept}

abbrev one_altered : ℕ → ℕ → (Interest → Interest) → Interest → Interest
one_altered peer sid f i = if is_of peer sid i then f i else i

both_true : (a b : Bool) → (a && b) ≡ true → (a ≡ true) × (b ≡ true)
both_true true true is = (refl, refl)
both_true true false is = absurd (false≢true is)
both_true false b is = absurd (false≢true is)

neither : (a b : Bool) → (a || b) ≡ false → (a ≡ false) × (b ≡ false)
neither false false is = (refl, refl)
neither true b is = absurd (false≢true (sym is))
neither false true is = absurd (false≢true (sym is))

-- the number and the peer are those of the interest
same_name : (peer sid : ℕ) (i x : Interest) → is_of peer sid i ≡ true → is_of i.peer i.sid x ≡ is_of peer sid x
same_name peer sid i x is =
    let parts = both_true (i.peer == peer) (i.sid == sid) is in
    let p : i.peer ≡ peer = eqb-true i.peer peer parts.0 in
    let s : i.sid ≡ sid = eqb-true i.sid sid parts.1 in
    ap (λ n. is_of n i.sid x) p ∙ ap (λ n. is_of peer n x) s

any_at : (test : Interest → Bool) (xs : List Interest) (k : ℕ) (x : Interest) → slice_get xs k ≡ Some x → test x ≡ true → list_any test xs ≡ true
any_at test [] k x at is = cc
any_at test (a ∷ xs) zero x at is =
    let same : a ≡ x = cc in
    ap (λ i. test i || list_any test xs) same ∙ ap (λ b. b || list_any test xs) is
any_at test (a ∷ xs) (suc k) x at is = by (test a) (any_at test xs k x at is)
  where
    by : (b : Bool) → list_any test xs ≡ true → (b || list_any test xs) ≡ true
    by true there = refl
    by false there = there

any_same : (p q : Interest → Bool) → ((x : Interest) → p x ≡ q x) → (xs : List Interest) → list_any p xs ≡ list_any q xs
any_same p q same [] = refl
any_same p q same (x ∷ xs) = ap (λ b. b || list_any p xs) (same x) ∙ ap (λ b. q x || b) (any_same p q same xs)

-- where none is of that name all stay
pub none_altered : (peer sid : ℕ) (f : Interest → Interest) (rows : List Interest) → list_any (is_of peer sid) rows ≡ false → AreOpen rows
    → altered peer sid f rows ≡ rows
none_altered peer sid f [] none are_open = refl
none_altered peer sid f (x ∷ rows) none are_open =
    let parts = neither (is_of peer sid x) (list_any (is_of peer sid) rows) none in
    ap (λ b. filter is_open ((if b then f x else x) ∷ map (one_altered peer sid f) rows)) parts.0
    ∙ ap (λ b. if b then x ∷ altered peer sid f rows else altered peer sid f rows) are_open.0
    ∙ ap (λ xs. x ∷ xs) (none_altered peer sid f rows parts.1 are_open.1)

not_of : (peer sid : ℕ) (y : Interest) (rows : List Interest) (k : ℕ) (x : Interest) → slice_get rows k ≡ Some x → is_of peer sid x ≡ true
    → list_any (is_of y.peer y.sid) rows ≡ false → is_of peer sid y ≡ false
not_of peer sid y rows k x at is none = by (is_of peer sid y) refl
  where
    by : (b : Bool) → is_of peer sid y ≡ b → b ≡ false
    by false is_y = refl
    by true is_y = absurd (false≢true (sym none ∙ any_at (is_of y.peer y.sid) rows k x at (same_name peer sid y x is_y ∙ is)))

pub altered_at : (peer sid : ℕ) (f : Interest → Interest) (rows : List Interest) (k : ℕ) (x : Interest) → slice_get rows k ≡ Some x → is_of peer sid x ≡ true
    → AreKept rows → altered peer sid f rows ≡ (if is_open (f x) then slice_set rows k (f x) else remove rows k)
altered_at peer sid f [] k x at is kept = cc
altered_at peer sid f (y ∷ rows) zero x at is kept =
    let same : y ≡ x = cc in
    let is_y : is_of peer sid y ≡ true = ap (is_of peer sid) same ∙ is in
    let none : list_any (is_of peer sid) rows ≡ false = sym (any_same (is_of y.peer y.sid) (is_of peer sid) (λ z. same_name peer sid y z is_y) rows) ∙ kept.0.0 in
    ap (λ b. filter is_open ((if b then f y else y) ∷ map (one_altered peer sid f) rows)) is_y
    ∙ ap (λ xs. if is_open (f y) then f y ∷ xs else xs) (none_altered peer sid f rows none kept.1.1)
    ∙ ap (λ i. if is_open (f i) then f i ∷ rows else rows) same
altered_at peer sid f (y ∷ rows) (suc k) x at is kept =
    ap (λ b. filter is_open ((if b then f y else y) ∷ map (one_altered peer sid f) rows)) (not_of peer sid y rows k x at is kept.0.0)
    ∙ ap (λ b. if b then y ∷ altered peer sid f rows else altered peer sid f rows) kept.1.0
    ∙ ap (λ xs. y ∷ xs) (altered_at peer sid f rows k x at is (kept.0.1, kept.1.1))
    ∙ pushed (is_open (f x))
  where
    pushed : (b : Bool) → y ∷ (if b then slice_set rows k (f x) else remove rows k) ≡ (if b then slice_set (y ∷ rows) (suc k) (f x) else remove (y ∷ rows) (suc k))
    pushed true = refl
    pushed false = refl

pub removed_set : (rows : List Interest) (k : ℕ) (x : Interest) → remove (slice_set rows k x) k ≡ remove rows k
removed_set [] k x = refl
removed_set (y ∷ rows) zero x = refl
removed_set (y ∷ rows) (suc k) x = ap (λ xs. y ∷ xs) (removed_set rows k x)

same_pattern : (what : Change) (i : Interest) → pattern_of (changed what i) ≡ pattern_of i
same_pattern Count i = refl
same_pattern (Limit most) i = refl

pub set_patterns : (what : Change) (rows : List Interest) (k : ℕ) (x : Interest) → slice_get rows k ≡ Some x
    → map pattern_of (slice_set rows k (changed what x)) ≡ map pattern_of rows
set_patterns what [] k x at = refl
set_patterns what (y ∷ rows) zero x at =
    let same : y ≡ x = cc in ap (λ p. p ∷ map pattern_of rows) (same_pattern what x ∙ ap pattern_of (sym same))
set_patterns what (y ∷ rows) (suc k) x at = ap (λ ps. pattern_of y ∷ ps) (set_patterns what rows k x at)

-- ---- they stay distinct, and open

any_filter : (test keep : Interest → Bool) (xs : List Interest) → list_any test xs ≡ false → list_any test (filter keep xs) ≡ false
any_filter test keep [] none = refl
any_filter test keep (x ∷ xs) none = by (keep x) (any_filter test keep xs (neither (test x) (list_any test xs) none).1)
  where
    by : (b : Bool) → list_any test (filter keep xs) ≡ false → list_any test (if b then x ∷ filter keep xs else filter keep xs) ≡ false
    by true later = ap (λ c. c || list_any test (filter keep xs)) (neither (test x) (list_any test xs) none).0 ∙ later
    by false later = later

pub filter_distinct : (keep : Interest → Bool) (xs : List Interest) → AreDistinct xs → AreDistinct (filter keep xs)
filter_distinct keep [] are = tt
filter_distinct keep (x ∷ xs) are = by (keep x) (filter_distinct keep xs are.1)
  where
    by : (b : Bool) → AreDistinct (filter keep xs) → AreDistinct (if b then x ∷ filter keep xs else filter keep xs)
    by true later = (any_filter (is_of x.peer x.sid) keep xs are.0, later)
    by false later = later

pub filter_open : (keep : Interest → Bool) (xs : List Interest) → AreOpen xs → AreOpen (filter keep xs)
filter_open keep [] are = tt
filter_open keep (x ∷ xs) are = by (keep x) (filter_open keep xs are.1)
  where
    by : (b : Bool) → AreOpen (filter keep xs) → AreOpen (if b then x ∷ filter keep xs else filter keep xs)
    by true later = (are.0, later)
    by false later = later

all_open : (xs : List Interest) → AreOpen (filter is_open xs)
all_open [] = tt
all_open (x ∷ xs) = by (is_open x) refl (all_open xs)
  where
    by : (b : Bool) → is_open x ≡ b → AreOpen (filter is_open xs) → AreOpen (if b then x ∷ filter is_open xs else filter is_open xs)
    by true is later = (is, later)
    by false is later = later

-- a change that keeps the peer and the number
same_of : (peer sid : ℕ) (what : Change) (p s : ℕ) (i : Interest) → is_of p s (one_altered peer sid (changed what) i) ≡ is_of p s i
same_of peer sid what p s i = by (is_of peer sid i) what
  where
    by : (b : Bool) (what : Change) → is_of p s (if b then changed what i else i) ≡ is_of p s i
    by true Count = refl
    by true (Limit most) = refl
    by false what = refl

any_map : (test : Interest → Bool) (f : Interest → Interest) → ((i : Interest) → test (f i) ≡ test i) → (xs : List Interest) → list_any test (map f xs) ≡ list_any test xs
any_map test f same [] = refl
any_map test f same (x ∷ xs) = ap (λ b. b || list_any test (map f xs)) (same x) ∙ ap (λ b. test x || b) (any_map test f same xs)

same_peer : (peer sid : ℕ) (what : Change) (i : Interest) → (one_altered peer sid (changed what) i).peer ≡ i.peer
same_peer peer sid what i = by (is_of peer sid i) what
  where
    by : (b : Bool) (what : Change) → (if b then changed what i else i).peer ≡ i.peer
    by true Count = refl
    by true (Limit most) = refl
    by false what = refl

same_sid : (peer sid : ℕ) (what : Change) (i : Interest) → (one_altered peer sid (changed what) i).sid ≡ i.sid
same_sid peer sid what i = by (is_of peer sid i) what
  where
    by : (b : Bool) (what : Change) → (if b then changed what i else i).sid ≡ i.sid
    by true Count = refl
    by true (Limit most) = refl
    by false what = refl

map_distinct : (peer sid : ℕ) (what : Change) (xs : List Interest) → AreDistinct xs → AreDistinct (map (one_altered peer sid (changed what)) xs)
map_distinct peer sid what [] are = tt
map_distinct peer sid what (x ∷ xs) are = (
  ap (λ p. list_any (is_of p (one_altered peer sid (changed what) x).sid) (map (one_altered peer sid (changed what)) xs)) (same_peer peer sid what x)
      ∙ ap (λ s. list_any (is_of x.peer s) (map (one_altered peer sid (changed what)) xs)) (same_sid peer sid what x)
      ∙ any_map (is_of x.peer x.sid) (one_altered peer sid (changed what)) (same_of peer sid what x.peer x.sid) xs
      ∙ are.0,
  map_distinct peer sid what xs are.1,
)

pub altered_kept : (peer sid : ℕ) (what : Change) (rows : List Interest) → AreKept rows → AreKept (altered peer sid (changed what) rows)
altered_kept peer sid what rows kept = (
  filter_distinct is_open (map (one_altered peer sid (changed what)) rows) (map_distinct peer sid what rows kept.0),
  all_open (map (one_altered peer sid (changed what)) rows),
)

pub without_kept : (peer : ℕ) (rows : List Interest) → AreKept rows → AreKept (without_peer peer rows)
without_kept peer rows kept = (filter_distinct (λ i. not (i.peer == peer)) rows kept.0, filter_open (λ i. not (i.peer == peer)) rows kept.1)

-- one more, of a name that none has
eq_back : (a b : ℕ) → (a == b) ≡ (b == a)
eq_back a b = by (a == b) (b == a) refl refl
  where
    by : (x y : Bool) → (a == b) ≡ x → (b == a) ≡ y → x ≡ y
    by true true is back = refl
    by false false is back = refl
    by true false is back = sym (sym back ∙ eq-eqb b a (sym (eqb-true a b is)))
    by false true is back = sym is ∙ eq-eqb a b (sym (eqb-true b a back))

any_more : (test : Interest → Bool) (xs : List Interest) (x : Interest) → list_any test xs ≡ false → test x ≡ false → list_any test (xs ++ x ∷ []) ≡ false
any_more test [] x none is = ap (λ b. b || false) is
any_more test (y ∷ xs) x none is =
    let parts = neither (test y) (list_any test xs) none in
    ap (λ b. b || list_any test (xs ++ x ∷ [])) parts.0 ∙ any_more test xs x parts.1 is

distinct_more : (xs : List Interest) (x : Interest) → AreDistinct xs → list_any (is_of x.peer x.sid) xs ≡ false → AreDistinct (xs ++ x ∷ [])
distinct_more [] x are none = (refl, tt)
distinct_more (y ∷ xs) x are none =
    let parts = neither (is_of x.peer x.sid y) (list_any (is_of x.peer x.sid) xs) none in
    let other : is_of y.peer y.sid x ≡ false = ap (λ b. b && (x.sid == y.sid)) (eq_back x.peer y.peer) ∙ ap (λ b. (y.peer == x.peer) && b) (eq_back x.sid y.sid) ∙ parts.0 in
    (any_more (is_of y.peer y.sid) xs x are.0 other, distinct_more xs x are.1 parts.1)

open_more : (xs : List Interest) (x : Interest) → AreOpen xs → is_open x ≡ true → AreOpen (xs ++ x ∷ [])
open_more [] x are is = (is, tt)
open_more (y ∷ xs) x are is = (are.0, open_more xs x are.1 is)

pub kept_more : (peer sid : ℕ) (pattern : List ℕ) (group : Option (List ℕ)) (rows : List Interest) → list_any (is_of peer sid) rows ≡ false → AreKept rows
    → AreKept (rows ++ new_interest peer sid pattern group ∷ [])
kept_more peer sid pattern group rows none kept = (
  distinct_more rows (new_interest peer sid pattern group) kept.0 none,
  open_more rows (new_interest peer sid pattern group) kept.1 refl,
)

pub added : (peer sid : ℕ) (pattern : List ℕ) (group : Option (List ℕ)) (rows : List Interest) (index : IndexSeen) → list_any (is_of peer sid) rows ≡ false
    → AreKept rows × Remembers (map pattern_of rows) index
    → AreKept (rows ++ new_interest peer sid pattern group ∷ []) × Remembers (map pattern_of (rows ++ new_interest peer sid pattern group ∷ [])) index
added peer sid pattern group rows index none kept = (
  kept_more peer sid pattern group rows none kept.0,
  subst (λ ps. Remembers ps index) (sym (map-append pattern_of rows (new_interest peer sid pattern group ∷ []))) (more_remembered (map pattern_of rows) (pattern ∷ []) index kept.1),
)
