-- Each group gets a message once, by its name.
use Rattle.std.proofs.Common.{◌≡◌, ℕ, Bool, true, false, cond, List, [], ◌∷◌, ◌++◌, filter, fold, Option, Some, None, refl, ap, sym, subst, append_assoc, ◌∙◌, Ordering, Less, Equal, Greater, nat_cmp}
use Rattle.std.proofs.lemmas.Bool.{false≢true}
use Rattle.std.proofs.lemmas.List.{append-nil}
use Rattle.std.proofs.lemmas.List.Elements.{filter-append}
use Rattle.std.proofs.lemmas.List.Sums.{fold-append}
use Rattle.std.specs.Ordering.{match_ordering, is_eq, ordering_reverse}
use Rattle.std.specs.Cmp.Lexicographic.{slice_cmp, nat_list_cmp_total, texts_ties}
use Rattle.std.specs.Option.{unwrap_or}
use Rattle.std.specs.List.{cons_option}
use Rattle.nats_interests.specs.declared.interest.Interest.{Interest}
use Rattle.nats_picking.specs.Hearing.{is_in, is_group, is_plain, has_no_group, has_less, least}
use Rattle.nats_picking.specs.Picking.{group_name, better, onto_pick, pick}
use Rattle.nats_picking.specs.Once.{EachOnce, Above, Ascend, InOrder}

C : List ℕ → List ℕ → Ordering
C a b = slice_cmp nat_cmp a b

abbrev Grouped : List Interest → Type 0
Grouped [] = Unit {0}
Grouped (i ∷ more) = (is_plain i ≡ false) × Grouped more

-- ---- one interest

in_by : (group : Option (List ℕ)) (n : List ℕ) → has_no_group group ≡ false → is_group n group ≡ is_eq (slice_cmp nat_cmp (unwrap_or group []) n)
in_by None n is = absurd (false≢true (sym is))
in_by (Some g) n is = texts_ties g n

in_by_name : (i : Interest) (n : List ℕ) → is_plain i ≡ false → is_in n i ≡ is_eq (slice_cmp nat_cmp (group_name i) n)
in_by_name i n is = in_by i.group n is

reversed : (a b : List ℕ) (o : Ordering) → slice_cmp nat_cmp a b ≡ o → slice_cmp nat_cmp b a ≡ ordering_reverse o
reversed a b o is = nat_list_cmp_total.antisymm b a ∙ ap ordering_reverse is

better_by : (P : Interest → Type 0) (i p : Interest) → P i → P p → (b : Bool) → P (cond b i p)
better_by P i p one other true = one
better_by P i p one other false = other

better_has : (P : Interest → Type 0) (i p : Interest) → P i → P p → P (better i p)
better_has P i p one other = better_by P i p one other (has_less i p)

-- ---- order

above_all : (m : List ℕ) (p : Interest) (more : List Interest) → slice_cmp nat_cmp m (group_name p) ≡ Less → Above (group_name p) more → Above m more
above_all m p [] less above = tt
above_all m p (q ∷ more) less above = (nat_list_cmp_total.trans m (group_name p) (group_name q) less above.0, above_all m p more less above.1)

above_same : (m n : List ℕ) (more : List Interest) → slice_cmp nat_cmp m n ≡ Equal → Above n more → Above m more
above_same m n [] same above = tt
above_same m n (q ∷ more) same above = (nat_list_cmp_total.congr m n (group_name q) same ∙ above.0, above_same m n more same above.1)

abbrev onto_by : Ordering → Interest → Interest → List Interest → List Interest
onto_by o i p more = match_ordering o (i ∷ p ∷ more) (better i p ∷ more) (p ∷ onto_pick i more)

above_onto : (m : List ℕ) (i : Interest) (ps : List Interest) → slice_cmp nat_cmp m (group_name i) ≡ Less → Above m ps → Above m (onto_pick i ps)
above_onto m i [] less above = (less, tt)
above_onto m i (p ∷ more) less above = by (slice_cmp nat_cmp (group_name i) (group_name p)) (above_onto m i more less above.1)
  where
    by : (o : Ordering) → Above m (onto_pick i more) → Above m (onto_by o i p more)
    by Less later = (less, above)
    by Equal later = (better_has (λ q. slice_cmp nat_cmp m (group_name q) ≡ Less) i p less above.0, above.1)
    by Greater later = (above.0, later)

pub ascend_onto : (i : Interest) (ps : List Interest) → Ascend ps → Ascend (onto_pick i ps)
ascend_onto i [] ascend = (tt, tt)
ascend_onto i (p ∷ more) ascend = by (slice_cmp nat_cmp (group_name i) (group_name p)) refl (ascend_onto i more ascend.1)
  where
    by : (o : Ordering) → slice_cmp nat_cmp (group_name i) (group_name p) ≡ o → Ascend (onto_pick i more) → Ascend (onto_by o i p more)
    by Less is later = ((is, above_all (group_name i) p more is ascend.0), ascend)
    by Equal is later = (better_has (λ q. Above (group_name q) more) i p (above_same (group_name i) (group_name p) more is ascend.0) ascend.0, ascend.1)
    by Greater is later = (above_onto (group_name p) i more (reversed (group_name i) (group_name p) Greater is) ascend.0, later)

grouped_onto : (i : Interest) (ps : List Interest) → is_plain i ≡ false → Grouped ps → Grouped (onto_pick i ps)
grouped_onto i [] is grouped = (is, tt)
grouped_onto i (p ∷ more) is grouped = by (slice_cmp nat_cmp (group_name i) (group_name p)) (grouped_onto i more is grouped.1)
  where
    by : (o : Ordering) → Grouped (onto_pick i more) → Grouped (onto_by o i p more)
    by Less later = (is, grouped)
    by Equal later = (better_has (λ q. is_plain q ≡ false) i p is grouped.0, grouped.1)
    by Greater later = (grouped.0, later)

-- ---- of one group

equal_is : (o : Ordering) → is_eq o ≡ true → o ≡ Equal
equal_is Equal is = refl
equal_is Less is = absurd (false≢true is)
equal_is Greater is = absurd (false≢true is)

none_is : (o : Option Interest) → [] ≡ cons_option o [] → o ≡ None
none_is None is = refl
none_is (Some q) is = cc

-- none of those above is in it
none_above : (n : List ℕ) (ps : List Interest) → Grouped ps → Above n ps → filter (is_in n) ps ≡ []
none_above n [] grouped above = refl
none_above n (p ∷ more) grouped above =
    let out : is_in n p ≡ false = in_by_name p n grouped.0 ∙ ap is_eq (reversed n (group_name p) Less above.0) in
    ap (λ b. cond b (p ∷ filter (is_in n) more) (filter (is_in n) more)) out ∙ none_above n more grouped.1 above.1

-- one more of another group
other_onto : (n : List ℕ) (i : Interest) (ps : List Interest) → is_plain i ≡ false → Grouped ps → is_in n i ≡ false
    → filter (is_in n) (onto_pick i ps) ≡ filter (is_in n) ps
other_onto n i [] is grouped out = ap (λ b. cond b (i ∷ []) []) out
other_onto n i (p ∷ more) is grouped out = by (slice_cmp nat_cmp (group_name i) (group_name p)) refl (other_onto n i more is grouped.1 out)
  where
    by : (o : Ordering) → slice_cmp nat_cmp (group_name i) (group_name p) ≡ o → filter (is_in n) (onto_pick i more) ≡ filter (is_in n) more
        → filter (is_in n) (onto_by o i p more) ≡ filter (is_in n) (p ∷ more)
    by Less same later = ap (λ b. cond b (i ∷ filter (is_in n) (p ∷ more)) (filter (is_in n) (p ∷ more))) out
    by Equal same later =
        let same_name : slice_cmp nat_cmp (group_name i) n ≡ slice_cmp nat_cmp (group_name p) n = nat_list_cmp_total.congr (group_name i) (group_name p) n same in
        let p_out : is_in n p ≡ false = in_by_name p n grouped.0 ∙ ap is_eq (sym same_name) ∙ sym (in_by_name i n is) ∙ out in
        ap (λ b. cond b (better i p ∷ filter (is_in n) more) (filter (is_in n) more)) (better_has (λ q. is_in n q ≡ false) i p out p_out)
        ∙ ap (λ b. cond b (p ∷ filter (is_in n) more) (filter (is_in n) more)) (sym p_out)
    by Greater same later = ap (λ (xs : List Interest). cond (is_in n p) (p ∷ xs) xs) later

abbrev with_one : Interest → Option Interest → Interest
with_one i None = i
with_one i (Some p) = better i p

only_one : (p : Interest) (xs : List Interest) (o : Option Interest) → p ∷ xs ≡ cons_option o [] → (o ≡ Some p) × (xs ≡ [])
only_one p xs None is = cc
only_one p xs (Some q) is = (let same : p ≡ q = cc in ap (λ (x : Interest). Some x) (sym same), cc)

-- one more of this group
same_onto : (n : List ℕ) (i : Interest) (ps : List Interest) → is_plain i ≡ false → Grouped ps → Ascend ps → is_in n i ≡ true
    → (o : Option Interest) → filter (is_in n) ps ≡ cons_option o [] → filter (is_in n) (onto_pick i ps) ≡ with_one i o ∷ []
same_onto n i [] is grouped ascend inn None before = ap (λ b. cond b (i ∷ []) []) inn
same_onto n i [] is grouped ascend inn (Some q) before = cc
same_onto n i (p ∷ more) is grouped ascend inn o before =
    by (slice_cmp nat_cmp (group_name i) (group_name p)) refl (same_onto n i more is grouped.1 ascend.1 inn o)
  where
    named : slice_cmp nat_cmp (group_name i) n ≡ Equal
    named = equal_is (slice_cmp nat_cmp (group_name i) n) (sym (in_by_name i n is) ∙ inn)

    reverse_named : slice_cmp nat_cmp n (group_name i) ≡ Equal
    reverse_named = reversed (group_name i) n Equal named

    by : (c : Ordering) → slice_cmp nat_cmp (group_name i) (group_name p) ≡ c
        → (filter (is_in n) more ≡ cons_option o [] → filter (is_in n) (onto_pick i more) ≡ with_one i o ∷ [])
        → filter (is_in n) (onto_by c i p more) ≡ with_one i o ∷ []
    by Less order later =
        let n_below : slice_cmp nat_cmp n (group_name p) ≡ Less = nat_list_cmp_total.congr n (group_name i) (group_name p) reverse_named ∙ order in
        let none : filter (is_in n) (p ∷ more) ≡ [] = none_above n (p ∷ more) grouped (n_below, above_all n p more n_below ascend.0) in
        let no_other : o ≡ None = none_is o (sym none ∙ before) in
        ap (λ b. cond b (i ∷ filter (is_in n) (p ∷ more)) (filter (is_in n) (p ∷ more))) inn
        ∙ ap (λ (xs : List Interest). i ∷ xs) none ∙ ap (λ q. with_one i q ∷ []) (sym no_other)
    by Equal order later =
        let p_named : slice_cmp nat_cmp (group_name p) n ≡ Equal = sym (nat_list_cmp_total.congr (group_name i) (group_name p) n order) ∙ named in
        let p_in : is_in n p ≡ true = in_by_name p n grouped.0 ∙ ap is_eq p_named in
        let whole : p ∷ filter (is_in n) more ≡ cons_option o [] = sym (ap (λ b. cond b (p ∷ filter (is_in n) more) (filter (is_in n) more)) p_in) ∙ before in
        let one = only_one p (filter (is_in n) more) o whole in
        ap (λ b. cond b (better i p ∷ filter (is_in n) more) (filter (is_in n) more)) (better_has (λ q. is_in n q ≡ true) i p inn p_in)
        ∙ ap (λ (xs : List Interest). better i p ∷ xs) one.1 ∙ ap (λ q. with_one i q ∷ []) (sym one.0)
    by Greater order later =
        let p_out : is_in n p ≡ false =
        in_by_name p n grouped.0 ∙ ap is_eq (reversed n (group_name p) Greater (nat_list_cmp_total.congr n (group_name i) (group_name p) reverse_named ∙ order)) in
        ap (λ b. cond b (p ∷ filter (is_in n) (onto_pick i more)) (filter (is_in n) (onto_pick i more))) p_out
        ∙ later (sym (ap (λ b. cond b (p ∷ filter (is_in n) more) (filter (is_in n) more)) p_out) ∙ before)

-- ---- one by one

record Fits (xs ps : List Interest) : Type 0 where
  grouped : Grouped ps
  ascend : Ascend ps
  once : (n : List ℕ) → filter (is_in n) ps ≡ cons_option (least (filter (is_in n) xs)) []

group_out : (group : Option (List ℕ)) (n : List ℕ) → has_no_group group ≡ true → is_group n group ≡ false
group_out None n is = refl
group_out (Some g) n is = absurd (false≢true is)

least_more : (ys : List Interest) (i : Interest) → least (ys ++ i ∷ []) ≡ Some (with_one i (least ys))
least_more [] i = refl
least_more (y ∷ ys) i = ap (λ (b : Interest). Some b) (fold-append (λ (b : Interest) x. cond (has_less x b) x b) y ys (i ∷ []))

-- what one more member makes of those of a group
filtered : (n : List ℕ) (xs : List Interest) (i : Interest) (b : Bool) → is_in n i ≡ b
    → filter (is_in n) (xs ++ i ∷ []) ≡ filter (is_in n) xs ++ cond b (i ∷ []) []
filtered n xs i b is = filter-append (is_in n) xs (i ∷ []) ∙ ap (λ b. filter (is_in n) xs ++ cond b (i ∷ []) []) is

unchanged : (n : List ℕ) (xs : List Interest) (i : Interest) → is_in n i ≡ false → filter (is_in n) xs ≡ filter (is_in n) (xs ++ i ∷ [])
unchanged n xs i out = sym (filtered n xs i false out ∙ append-nil (filter (is_in n) xs))

one_more : (xs ps : List Interest) (i : Interest) → Fits xs ps → (plain : Bool) → is_plain i ≡ plain → Fits (xs ++ i ∷ []) (cond plain ps (onto_pick i ps))
one_more xs ps i f true is = record {
  grouped = f.grouped;
  ascend = f.ascend;
  once = λ n. f.once n ∙ ap (λ ys. cons_option (least ys) []) (unchanged n xs i (group_out i.group n is));
}
one_more xs ps i f false is = record {
  grouped = grouped_onto i ps is f.grouped;
  ascend = ascend_onto i ps f.ascend;
  once = λ n. by n (is_in n i) refl;
}
  where
    by : (n : List ℕ) (b : Bool) → is_in n i ≡ b → filter (is_in n) (onto_pick i ps) ≡ cons_option (least (filter (is_in n) (xs ++ i ∷ []))) []
    by n true inn =
        same_onto n i ps is f.grouped f.ascend inn (least (filter (is_in n) xs)) (f.once n)
        ∙ ap (λ o. cons_option o []) (sym (least_more (filter (is_in n) xs) i))
        ∙ ap (λ ys. cons_option (least ys) []) (sym (filtered n xs i true inn))
    by n false out =
        other_onto n i ps is f.grouped out ∙ f.once n ∙ ap (λ ys. cons_option (least ys) []) (unchanged n xs i out)

all_fit : (ys xs ps : List Interest) → Fits xs ps → Fits (xs ++ ys) (fold pick ps ys)
all_fit [] xs ps f = subst (λ zs. Fits zs ps) (sym (append-nil xs)) f
all_fit (i ∷ ys) xs ps f =
    subst (λ zs. Fits zs (fold pick (pick ps i) ys)) (append_assoc xs (i ∷ []) ys)
    (all_fit ys (xs ++ i ∷ []) (pick ps i) (one_more xs ps i f (is_plain i) refl))

none_fit : Fits [] []
none_fit = record { grouped = tt; ascend = tt; once = λ n. refl }

pub each_once : EachOnce
each_once heard name = (all_fit heard [] [] none_fit).once name

pub in_order : InOrder
in_order heard = (all_fit heard [] [] none_fit).ascend
