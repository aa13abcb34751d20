-- One item of a list is changed.
use Rattle.std.proofs.Common.{◌≡◌, ℕ, zero, suc, ◌+◌, ◌-◌, ◌<◌, ◌≤◌, List, [], ◌∷◌, ◌++◌, length, take, get_or, slice_set, refl, ap, sym, ◌∙◌, arith}
use Rattle.std.proofs.Math.Seq.{take-append_seam}
use Rattle.std.proofs.Common.{length-append}
use Rattle.std.proofs.lemmas.List.Sums.{fold_more}
use Rattle.nats_outboxes.specs.declared.outboxes.Letter.{Letter}
use Rattle.nats_outboxes.specs.Outboxes.{at_index, at_number, grown, shortened, said, all_said}

changed_at : {A : Type 0} (f : A → A) (xs : List A) (k : ℕ) (d : A) → k < length xs → slice_set xs k (f (get_or xs k d)) ≡ at_index k f xs
changed_at f [] k d inside = absurd (omega (arith, inside))
changed_at f (a ∷ xs) zero d inside = refl
changed_at f (a ∷ xs) (suc k) d inside = ap (λ ys. a ∷ ys) (changed_at f xs k d (omega (arith, inside)))

-- an item that is put in its own place
pub kept_at : {A : Type 0} (xs : List A) (k : ℕ) (d : A) → k < length xs → slice_set xs k (get_or xs k d) ≡ xs
kept_at [] k d inside = absurd (omega (arith, inside))
kept_at (a ∷ xs) zero d inside = refl
kept_at (a ∷ xs) (suc k) d inside = ap (λ ys. a ∷ ys) (kept_at xs k d (omega (arith, inside)))

past_end : {A : Type 0} (f : A → A) (xs : List A) (k : ℕ) → length xs ≤ k → at_index k f xs ≡ xs
past_end f [] k over = refl
past_end f (a ∷ xs) zero over = absurd (omega (arith, over))
past_end f (a ∷ xs) (suc k) over = ap (λ ys. a ∷ ys) (past_end f xs k (omega (arith, over)))

-- by its number
pub at_its_number : {A : Type 0} (f : A → A) (xs : List A) (n : ℕ) (d : A) → (n ≡ 0 → ⊥) → n ≤ length xs
    → slice_set xs (n - 1) (f (get_or xs (n - 1) d)) ≡ at_number n f xs
at_its_number f xs zero d some inside = absurd (some refl)
at_its_number f xs (suc k) d some inside =
    let e : suc k - 1 ≡ k = omega arith in
    ap (λ j. slice_set xs j (f (get_or xs j d))) e ∙ changed_at f xs k d (omega (arith, inside))

pub kept_at_number : {A : Type 0} (xs : List A) (n : ℕ) (d : A) → (n ≡ 0 → ⊥) → n ≤ length xs → slice_set xs (n - 1) (get_or xs (n - 1) d) ≡ xs
kept_at_number xs zero d some inside = absurd (some refl)
kept_at_number xs (suc k) d some inside =
    let e : suc k - 1 ≡ k = omega arith in
    ap (λ j. slice_set xs j (get_or xs j d)) e ∙ kept_at xs k d (omega (arith, inside))

pub no_number : {A : Type 0} (f : A → A) (xs : List A) (n : ℕ) → length xs < n → at_number n f xs ≡ xs
no_number f xs zero over = refl
no_number f xs (suc k) over = past_end f xs k (omega (arith, over))

undone_at : {A : Type 0} (f g : A → A) → ((x : A) → g (f x) ≡ x) → (xs : List A) (k : ℕ) → at_index k g (at_index k f xs) ≡ xs
undone_at f g undoes [] k = refl
undone_at f g undoes (a ∷ xs) zero = ap (λ b. b ∷ xs) (undoes a)
undone_at f g undoes (a ∷ xs) (suc k) = ap (λ ys. a ∷ ys) (undone_at f g undoes xs k)

-- a change is undone
pub undone : {A : Type 0} (f g : A → A) → ((x : A) → g (f x) ≡ x) → (xs : List A) (n : ℕ) → at_number n g (at_number n f xs) ≡ xs
undone f g undoes xs zero = refl
undone f g undoes xs (suc k) = undone_at f g undoes xs k

-- what was pushed last is let go
pub shortens : (text out : List ℕ) → shortened (length text) (grown text out) ≡ out
shortens text out =
    let e : length (out ++ text) - length text ≡ length out = omega (arith, length-append out text) in
    ap (λ n. take n (out ++ text)) e ∙ take-append_seam out text

-- the last of those that are told is taken back
pub taken_back : (letters : List Letter) (k : ℕ) (d : Letter) (before : List (List ℕ)) → 0 < k → k ≤ length letters
    → at_number (get_or letters (k - 1) d).peer (shortened (length (get_or letters (k - 1) d).text)) (all_said (take k letters) before)
    ≡ all_said (take (k - 1) letters) before
taken_back letters k d before some within =
    let letter = get_or letters (k - 1) d in
    let e : k ≡ (k - 1) + 1 = omega (arith, some) in
    ap (λ j. at_number letter.peer (shortened (length letter.text)) (all_said (take j letters) before)) e
    ∙ ap (at_number letter.peer (shortened (length letter.text))) (fold_more said before letters (k - 1) d (omega (arith, some, within)))
    ∙ undone (grown letter.text) (shortened (length letter.text)) (shortens letter.text) (all_said (take (k - 1) letters) before) letter.peer
