-- A table of numbered things, each told by its number: the table after one of them changed, and after one more came.
use Rattle.std.proofs.Common.{◌≡◌, ℕ, zero, suc, ◌+◌, ◌<◌, ◌≤◌, cond, eqb, List, [], ◌∷◌, ◌++◌, length, map, Some, None, refl, ◌∙◌, ap, subst, arith}
use Rattle.std.specs.Prelude.{slice_get}
use Rattle.std.proofs.lemmas.List.{map-append}
use Rattle.std.proofs.lemmas.Bool.{ne_eqb, eq-eqb}
use Rattle.nats_tables.specs.Numbers.{at_index, at_number, item_of, count_from, About, nobody, everyone, only, is_about, change}

pub same_cons : {A : Type 0} (x y : A) (xs ys : List A) → x ≡ y → xs ≡ ys → x ∷ xs ≡ y ∷ ys
same_cons x y xs ys e d = cc

pub length-count_from : (first n : ℕ) → length (count_from first n) ≡ n
length-count_from first zero = refl
length-count_from first (suc n) = ap suc (length-count_from (suc first) n)

pub count_from_last : (first n : ℕ) → count_from first (suc n) ≡ count_from first n ++ (first + n) ∷ []
count_from_last first zero = let e : first ≡ first + 0 = omega arith in ap (λ k. k ∷ []) e
count_from_last first (suc n) =
    let e : suc first + n ≡ first + suc n = omega arith in
    ap (λ xs. first ∷ xs) (count_from_last (suc first) n ∙ ap (λ k. count_from (suc first) n ++ k ∷ []) e)

pub length-at_index : {A : Type 0} (i : ℕ) (f : A → A) (xs : List A) → length (at_index i f xs) ≡ length xs
length-at_index i f [] = refl
length-at_index zero f (x ∷ xs) = refl
length-at_index (suc i) f (x ∷ xs) = ap suc (length-at_index i f xs)

pub length-at_number : {A : Type 0} (k : ℕ) (f : A → A) (xs : List A) → length (at_number k f xs) ≡ length xs
length-at_number zero f xs = refl
length-at_number (suc i) f xs = length-at_index i f xs

-- past the end nothing changes
pub at_index_past : {A : Type 0} (i : ℕ) (f : A → A) (xs : List A) → length xs ≤ i → at_index i f xs ≡ xs
at_index_past i f [] past = refl
at_index_past zero f (x ∷ xs) past = absurd (omega arith)
at_index_past (suc i) f (x ∷ xs) past = ap (λ ys. x ∷ ys) (at_index_past i f xs (omega arith))

-- tables of numbers up to n whose things look alike are one
pub same_from : {B : Type 0} (f g : ℕ → B) (n first : ℕ) → ((s : ℕ) → first ≤ s → s < first + n → f s ≡ g s) → map f (count_from first n) ≡ map g (count_from first n)
same_from f g zero first same = refl
same_from f g (suc n) first same =
    same_cons _ _ _ _ (same first (omega arith) (omega arith)) (same_from f g n (suc first) (λ s low high. same s (omega arith) (omega arith)))

pub same_up_to : {B : Type 0} (f g : ℕ → B) (n : ℕ) → ((s : ℕ) → 1 ≤ s → s ≤ n → f s ≡ g s) → map f (count_from 1 n) ≡ map g (count_from 1 n)
same_up_to f g n same = same_from f g n 1 (λ s low high. same s low (omega arith))

-- ---- the table after the thing of one number changed

changed_from : {B : Type 0} (f : B → B) (old new : ℕ → B) (n i first k : ℕ) → k ≡ first + i → new k ≡ f (old k) → ((s : ℕ) → (s ≡ k → ⊥) → new s ≡ old s)
    → map new (count_from first n) ≡ at_index i f (map old (count_from first n))
changed_from f old new zero i first k e changed others = refl
changed_from f old new (suc n) zero first k e changed others =
    let here : k ≡ first = omega arith in
    same_cons _ _ _ _ (subst (λ s. new s ≡ f (old s)) here changed) (same_from new old n (suc first) (λ s low high. others s (λ same. omega arith)))
changed_from f old new (suc n) (suc i) first k e changed others =
    same_cons _ _ _ _ (others first (λ same. omega arith)) (changed_from f old new n i (suc first) k (omega arith) changed others)

pub changed_at : {B : Type 0} (f : B → B) (old new : ℕ → B) (n k : ℕ) → new k ≡ f (old k) → ((s : ℕ) → (s ≡ k → ⊥) → new s ≡ old s)
    → map new (count_from 1 n) ≡ at_number k f (map old (count_from 1 n))
changed_at f old new n zero changed others = same_from new old n 1 (λ s low high. others s (λ same. omega arith))
changed_at f old new n (suc i) changed others = changed_from f old new n i 1 (suc i) (omega arith) changed others

-- the same where the change is a test for the number
pub numbered : {A B : Type 0} (view : ℕ → A → B) (f : B → B) (new old : ℕ → A) (n k : ℕ) → view k (new k) ≡ f (view k (old k))
    → map (λ s. view s (cond (eqb s k) (new s) (old s))) (count_from 1 n) ≡ at_number k f (map (λ s. view s (old s)) (count_from 1 n))
numbered view f new old n k changed =
    changed_at f (λ s. view s (old s)) (λ s. view s (cond (eqb s k) (new s) (old s))) n k
    (ap (λ b. view k (cond b (new k) (old k))) (eq-eqb k k refl) ∙ changed)
    (λ s apart. ap (λ b. view s (cond b (new s) (old s))) (ne_eqb s k apart))

map_map : {A B D : Type 0} (f : B → D) (g : A → B) (xs : List A) → map (λ x. f (g x)) xs ≡ map f (map g xs)
map_map f g [] = refl
map_map f g (x ∷ xs) = ap (λ ys. f (g x) ∷ ys) (map_map f g xs)

-- the table after what something is about was changed
pub changed : {B : Type 0} (a : About) (f : B → B) (g : ℕ → B) (n : ℕ) → map (λ s. cond (is_about s a) (f (g s)) (g s)) (count_from 1 n) ≡ change a f (map g (count_from 1 n))
changed nobody f g n = refl
changed everyone f g n = map_map f g (count_from 1 n)
changed (only k) f g n = numbered (λ s x. x) f (λ s. f (g s)) g n k refl

-- ---- the table after one more thing came, of the next number

pub one_more : {B : Type 0} (g : ℕ → B) (n : ℕ) (last : B) → g (suc n) ≡ last → map g (count_from 1 (suc n)) ≡ map g (count_from 1 n) ++ last ∷ []
one_more g n last e =
    let next : 1 + n ≡ suc n = omega arith in
    ap (map g) (count_from_last 1 n) ∙ (map-append g (count_from 1 n) ((1 + n) ∷ []) ∙ ap (λ x. map g (count_from 1 n) ++ x ∷ []) (ap g next ∙ e))

-- tables whose things look alike are one
pub same_table : {B : Type 0} (f g : ℕ → B) (numbers : List ℕ) → ((s : ℕ) → f s ≡ g s) → map f numbers ≡ map g numbers
same_table f g [] same = refl
same_table f g (s ∷ numbers) same = same_cons _ _ _ _ (same s) (same_table f g numbers same)

-- changes that make the same of the row of a number
pub agree_at : {A : Type 0} (k : ℕ) (f g : A → A) (xs : List A) → ((x : A) → item_of k xs ≡ Some x → f x ≡ g x)
    → at_number k f xs ≡ at_number k g xs
agree_at zero f g xs same = refl
agree_at (suc i) f g xs same = by_place i xs same
  where
    by_place : {A : Type 0} {f g : A → A} (i : ℕ) (xs : List A) → ((x : A) → slice_get xs i ≡ Some x → f x ≡ g x) → at_index i f xs ≡ at_index i g xs
    by_place i [] same = refl
    by_place zero (x ∷ xs) same = ap (λ y. y ∷ xs) (same x refl)
    by_place (suc i) (x ∷ xs) same = ap (λ ys. x ∷ ys) (by_place i xs same)

-- a change that changes nothing
pub at_number_same : {A : Type 0} (k : ℕ) (xs : List A) → at_number k (λ x. x) xs ≡ xs
at_number_same zero xs = refl
at_number_same (suc i) xs = by_place i xs
  where
    by_place : {A : Type 0} (i : ℕ) (xs : List A) → at_index i (λ x. x) xs ≡ xs
    by_place i [] = refl
    by_place zero (x ∷ xs) = refl
    by_place (suc i) (x ∷ xs) = ap (λ ys. x ∷ ys) (by_place i xs)

-- ---- an item of the table

item_from : {B : Type 0} (g : ℕ → B) (n i first : ℕ) → i < n → slice_get (map g (count_from first n)) i ≡ Some (g (first + i))
item_from g zero i first less = absurd (omega arith)
item_from g (suc n) zero first less = let e : first ≡ first + 0 = omega arith in ap (λ k. Some (g k)) e
item_from g (suc n) (suc i) first less =
    let e : suc first + i ≡ first + suc i = omega arith in
    item_from g n i (suc first) (omega arith) ∙ ap (λ k. Some (g k)) e

none_from : {B : Type 0} (g : ℕ → B) (n i first : ℕ) → n ≤ i → slice_get (map g (count_from first n)) i ≡ None
none_from g zero i first past = refl
none_from g (suc n) zero first past = absurd (omega arith)
none_from g (suc n) (suc i) first past = none_from g n i (suc first) (omega arith)

pub item_there : {B : Type 0} (g : ℕ → B) (n k : ℕ) → 0 < k → k ≤ n → item_of k (map g (count_from 1 n)) ≡ Some (g k)
item_there g n zero low high = absurd (omega arith)
item_there g n (suc i) low high =
    let e : 1 + i ≡ suc i = omega arith in
    item_from g n i 1 (omega arith) ∙ ap (λ j. Some (g j)) e

pub item_missing : {B : Type 0} (g : ℕ → B) (n k : ℕ) → n < k → item_of k (map g (count_from 1 n)) ≡ None
item_missing g n zero past = absurd (omega arith)
item_missing g n (suc i) past = none_from g n i 1 (omega arith)
