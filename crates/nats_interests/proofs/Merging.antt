-- Places of two kinds come together in their order.
use Rattle.std.proofs.Common.{◌≡◌, ℕ, suc, ◌≤◌, Bool, true, false, ◌||◌, List, [], ◌∷◌, ◌++◌, length, map, filter, Some, refl, ap, sym, ◌∙◌, arith, append_assoc, length-append}
use Rattle.std.specs.Prelude.{nat_lt, slice_get, if◌then◌else◌}
use Rattle.std.proofs.lemmas.Bool.{false≢true, le-ltb, lt-ltb}
use Rattle.nats_interests.specs.declared.interest.Interest.{Interest}
use Rattle.nats_interests.specs.Index.{pattern_of, places, below, above, merged, onto_gathered, gathered}

-- ---- places

-- all places are that or more
abbrev pub AllFrom : ℕ → List ℕ → Type 0
AllFrom k [] = Unit {0}
AllFrom k (n ∷ ns) = (k ≤ n) × AllFrom k ns

from_less : (j k : ℕ) (ns : List ℕ) → j ≤ k → AllFrom k ns → AllFrom j ns
from_less j k [] less all = tt
from_less j k (n ∷ ns) less all = (omega (arith, less, all.0), from_less j k ns less all.1)

one_from : (b : Bool) (k : ℕ) (ns : List ℕ) → AllFrom k ns → AllFrom k (if b then k ∷ ns else ns)
one_from true k ns all = (omega arith, all)
one_from false k ns all = all

all_from : (k : ℕ) (test : List ℕ → Bool) (patterns : List (List ℕ)) → AllFrom k (places k test patterns)
all_from k test [] = tt
all_from k test (pattern ∷ patterns) =
    one_from (test pattern) k (places (suc k) test patterns)
    (from_less k (suc k) (places (suc k) test patterns) (omega arith) (all_from (suc k) test patterns))

below_none : (k : ℕ) (ns : List ℕ) → AllFrom k ns → below k ns ≡ []
below_none k [] all = refl
below_none k (n ∷ ns) all = ap (λ b. if b then n ∷ below k ns else []) (le-ltb n k all.0)

above_all : (k : ℕ) (ns : List ℕ) → AllFrom k ns → above k ns ≡ ns
above_all k [] all = refl
above_all k (n ∷ ns) all = ap (λ b. if b then above k ns else n ∷ ns) (le-ltb n k all.0)

-- the first of the second kind stands before all of the first
put_first : (k : ℕ) (ks ns : List ℕ) → AllFrom (suc k) ks → merged ks (k ∷ ns) ≡ k ∷ merged ks ns
put_first k [] ns all = refl
put_first k (j ∷ ks) ns all =
    let less : nat_lt k j ≡ true = lt-ltb k j (omega (arith, all.0)) in
    ap (λ b. (if b then k ∷ below j ns else []) ++ j ∷ merged ks (if b then above j ns else k ∷ ns)) less

-- no pattern passes both tests
pub together : (f g : List ℕ → Bool) → ((p : List ℕ) → f p ≡ true → g p ≡ false) → (k : ℕ) (ps : List (List ℕ))
    → merged (places k f ps) (places k g ps) ≡ places k (λ p. f p || g p) ps
together f g apart k [] = refl
together f g apart k (p ∷ ps) = by (together f g apart (suc k) ps) (f p) (g p) refl refl
  where
    fs : List ℕ
    fs = places (suc k) f ps

    gs : List ℕ
    gs = places (suc k) g ps

    by : merged fs gs ≡ places (suc k) (λ p. f p || g p) ps → (a b : Bool) → f p ≡ a → g p ≡ b
        → merged (if a then k ∷ fs else fs) (if b then k ∷ gs else gs)
        ≡ (if a || b then k ∷ places (suc k) (λ p. f p || g p) ps else places (suc k) (λ p. f p || g p) ps)
    by later true true is also = absurd (false≢true (sym (apart p is) ∙ also))
    by later true false is also =
        let all = from_less k (suc k) gs (omega arith) (all_from (suc k) g ps) in
        ap (λ ns. ns ++ k ∷ merged fs (above k gs)) (below_none k gs all)
        ∙ ap (λ ns. k ∷ merged fs ns) (above_all k gs all)
        ∙ ap (λ ns. k ∷ ns) later
    by later false true is also = put_first k fs gs (all_from (suc k) f ps) ∙ ap (λ ns. k ∷ ns) later
    by later false false is also = later

-- ---- what stands at some places

at_seam : (us : List Interest) (x : Interest) (xs : List Interest) → slice_get (us ++ x ∷ xs) (length us) ≡ Some x
at_seam [] x xs = refl
at_seam (u ∷ us) x xs = at_seam us x xs

-- of those whose pattern passes the weaker test, those that pass the test are all that do
pub gathers : (test : Interest → Bool) (may : List ℕ → Bool) → ((i : Interest) → test i ≡ true → may (pattern_of i) ≡ true)
    → (rows us xs : List Interest) (k : ℕ) → length us ≡ k → (behind : List Interest) → rows ≡ us ++ (xs ++ behind)
    → gathered test rows (places k may (map pattern_of xs)) ≡ filter test xs
gathers test may weaker rows us [] k at behind is = refl
gathers test may weaker rows us (x ∷ xs) k at behind is =
    by (gathers test may weaker rows (us ++ x ∷ []) xs (suc k) (omega (arith, length-append us (x ∷ []), at)) behind (is ∙ sym (append_assoc us (x ∷ []) (xs ++ behind))))
    (test x) (may (pattern_of x)) refl refl
  where
    stands : slice_get rows k ≡ Some x
    stands = ap (λ n. slice_get rows n) (sym at) ∙ ap (λ all. slice_get all (length us)) is ∙ at_seam us x (xs ++ behind)

    by : gathered test rows (places (suc k) may (map pattern_of xs)) ≡ filter test xs → (a b : Bool) → test x ≡ a → may (pattern_of x) ≡ b
        → gathered test rows (if b then k ∷ places (suc k) may (map pattern_of xs) else places (suc k) may (map pattern_of xs))
        ≡ (if a then x ∷ filter test xs else filter test xs)
    by later true true is_test is_may =
        ap (λ found. onto_gathered test found (gathered test rows (places (suc k) may (map pattern_of xs)))) stands
        ∙ ap (λ c. if c then x ∷ gathered test rows (places (suc k) may (map pattern_of xs)) else gathered test rows (places (suc k) may (map pattern_of xs))) is_test
        ∙ ap (λ ys. x ∷ ys) later
    by later true false is_test is_may = absurd (false≢true (sym is_may ∙ weaker x is_test))
    by later false true is_test is_may =
        ap (λ found. onto_gathered test found (gathered test rows (places (suc k) may (map pattern_of xs)))) stands
        ∙ ap (λ c. if c then x ∷ gathered test rows (places (suc k) may (map pattern_of xs)) else gathered test rows (places (suc k) may (map pattern_of xs))) is_test
        ∙ later
    by later false false is_test is_may = later
