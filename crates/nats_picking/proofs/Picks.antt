-- A member is put among the best of the groups.
use Rattle.std.proofs.Common.{◌≡◌, ℕ, zero, suc, ◌+◌, ◌<◌, ◌≤◌, false, List, [], ◌∷◌, ◌++◌, length, take, drop, get_or, refl, ap, sym, ◌∙◌, arith, append_assoc, Ordering, Less, Equal, Greater, nat_cmp, slice_set, Bor}
use Rattle.std.specs.Ordering.{match_ordering}
use Rattle.std.specs.Cmp.Lexicographic.{slice_cmp}
use Rattle.std.specs.List.{take-map, drop-map}
use Rattle.nats_interests.specs.declared.interest.Interest.{Interest}
use Rattle.nats_picking.specs.Hearing.{is_plain}
use Rattle.nats_picking.specs.Picking.{nows, group_name, better, onto_pick, pick}

abbrev order : Interest → Interest → Ordering
order i best = slice_cmp nat_cmp (group_name i) (group_name best)

-- the one at a place stands before those behind
pub stands_at : (all : List (Bor Interest)) (k : ℕ) (x : Bor Interest) → k < length all → x ≡ get_or all k x
    → drop k (nows all) ≡ x.now ∷ drop (suc k) (nows all)
stands_at [] k x inside is = absurd (omega (arith, inside))
stands_at (a ∷ all) zero x inside is = ap (λ (b : Bor Interest). b.now ∷ nows all) (sym is)
stands_at (a ∷ all) (suc k) x inside is = stands_at all k x (omega (arith, inside)) is

pub is_less : (i best : Interest) (more : List Interest) → Less ≡ order i best → onto_pick i (best ∷ more) ≡ i ∷ best ∷ more
is_less i best more is = ap (λ o. match_ordering o (i ∷ best ∷ more) (better i best ∷ more) (best ∷ onto_pick i more)) (sym is)

pub is_equal : (i best : Interest) (more : List Interest) → Equal ≡ order i best → onto_pick i (best ∷ more) ≡ better i best ∷ more
is_equal i best more is = ap (λ o. match_ordering o (i ∷ best ∷ more) (better i best ∷ more) (best ∷ onto_pick i more)) (sym is)

pub is_greater : (i best : Interest) (more : List Interest) → Greater ≡ order i best → onto_pick i (best ∷ more) ≡ best ∷ onto_pick i more
is_greater i best more is = ap (λ o. match_ordering o (i ∷ best ∷ more) (better i best ∷ more) (best ∷ onto_pick i more)) (sym is)

take_more : (xs : List Interest) (k : ℕ) (x : Interest) (more : List Interest) → drop k xs ≡ x ∷ more → take (suc k) xs ≡ take k xs ++ x ∷ []
take_more [] zero x more is = cc
take_more [] (suc k) x more is = cc
take_more (a ∷ xs) zero x more is = cc
take_more (a ∷ xs) (suc k) x more is = ap (λ (ys : List Interest). a ∷ ys) (take_more xs k x more is)

-- one more was looked at
pub past_one : (i x : Interest) (xs : List Interest) (k : ℕ) → drop k xs ≡ x ∷ drop (suc k) xs → Greater ≡ order i x
    → onto_pick i xs ≡ take k xs ++ onto_pick i (drop k xs) → onto_pick i xs ≡ take (k + 1) xs ++ onto_pick i (drop (k + 1) xs)
past_one i x xs k stands greater before = let e : k + 1 ≡ suc k = omega arith in rw e (
    before
    ∙ ap (λ ys. take k xs ++ onto_pick i ys) stands
    ∙ ap (λ ys. take k xs ++ ys) (is_greater i x (drop (suc k) xs) greater)
    ∙ sym (append_assoc (take k xs) (x ∷ []) (onto_pick i (drop (suc k) xs)))
    ∙ ap (λ ys. ys ++ onto_pick i (drop (suc k) xs)) (sym (take_more xs k x (drop (suc k) xs) stands)))

pub put_before : (i x : Interest) (xs : List Interest) (k : ℕ) → drop k xs ≡ x ∷ drop (suc k) xs → Less ≡ order i x
    → onto_pick i xs ≡ take k xs ++ onto_pick i (drop k xs) → onto_pick i xs ≡ take k xs ++ i ∷ drop k xs
put_before i x xs k stands less before =
    before
    ∙ ap (λ ys. take k xs ++ onto_pick i ys) stands
    ∙ ap (λ ys. take k xs ++ ys) (is_less i x (drop (suc k) xs) less)
    ∙ ap (λ ys. take k xs ++ i ∷ ys) (sym stands)

pub put_same : (i x : Interest) (xs : List Interest) (k : ℕ) → drop k xs ≡ x ∷ drop (suc k) xs → Equal ≡ order i x
    → onto_pick i xs ≡ take k xs ++ onto_pick i (drop k xs)
    → onto_pick i xs ≡ take k xs ++ better i x ∷ drop (suc k) xs
put_same i x xs k stands equal before =
    before
    ∙ ap (λ ys. take k xs ++ onto_pick i ys) stands
    ∙ ap (λ ys. take k xs ++ ys) (is_equal i x (drop (suc k) xs) equal)

nows_append : (xs ys : List (Bor Interest)) → nows (xs ++ ys) ≡ nows xs ++ nows ys
nows_append [] ys = refl
nows_append (x ∷ xs) ys = ap (λ (zs : List Interest). x.now ∷ zs) (nows_append xs ys)

-- one more stands at a place
pub inserted : (all : List (Bor Interest)) (k : ℕ) (i : Bor Interest)
    → nows (take k all ++ i ∷ drop k all) ≡ take k (nows all) ++ i.now ∷ drop k (nows all)
inserted all k i =
    nows_append (take k all) (i ∷ drop k all)
    ∙ ap (λ (ys : List Interest). ys ++ i.now ∷ nows (drop k all)) (sym (take-map (λ (b : Bor Interest). b.now) k all))
    ∙ ap (λ (ys : List Interest). take k (nows all) ++ i.now ∷ ys) (sym (drop-map (λ (b : Bor Interest). b.now) k all))

-- another stands at a place
pub replaced : (all : List (Bor Interest)) (k : ℕ) (new : Bor Interest) (best : Interest) (more : List Interest) → drop k (nows all) ≡ best ∷ more
    → nows (slice_set all k new) ≡ take k (nows all) ++ new.now ∷ more
replaced [] zero new best more is = cc
replaced [] (suc k) new best more is = cc
replaced (a ∷ all) zero new best more is = ap (λ (ys : List Interest). new.now ∷ ys) cc
replaced (a ∷ all) (suc k) new best more is = ap (λ (ys : List Interest). a.now ∷ ys) (replaced all k new best more is)

pub inside : (all : List (Bor Interest)) (k : ℕ) (best : Interest) (more : List Interest) → drop k (nows all) ≡ best ∷ more → k < length all
inside [] zero best more is = cc
inside [] (suc k) best more is = cc
inside (a ∷ all) zero best more is = omega arith
inside (a ∷ all) (suc k) best more is = let less = inside all k best more is in omega (arith, less)

-- what stands there
pub is_best : (all : List (Bor Interest)) (k : ℕ) (x : Bor Interest) (best : Interest) (more : List Interest)
    → drop k (nows all) ≡ best ∷ more → x ≡ get_or all k x → x.now ≡ best
is_best all k x best more is at = let stands = stands_at all k x (inside all k best more is) at in cc

nows_length : (all : List (Bor Interest)) → length (nows all) ≡ length all
nows_length [] = refl
nows_length (x ∷ all) = ap suc (nows_length all)

pub within : (all : List (Bor Interest)) (k : ℕ) → k ≤ length all → k < suc (length (nows all))
within all k most = let same = nows_length all in omega (arith, same, most)

pub not_plain : (i : Interest) (xs : List Interest) → is_plain i ≡ false → pick xs i ≡ onto_pick i xs
not_plain i xs is = cc
