-- The lines of rows by their numbers, one row at a time.
use Rattle.std.proofs.Common.{◌≡◌, ℕ, zero, suc, ◌+◌, ◌<◌, List, [], ◌∷◌, ◌++◌, length, get_or, take, sym, ap, ◌∙◌, append_assoc, append-nil, add-zero, add-one, arith}
use Rattle.nats_spelling.specs.Lines.{numbered}

numbered_step : {A : Type 0} (lines : ℕ → A → List ℕ) (k : ℕ) (rows : List A) (i : ℕ) (row : A) → i < length rows → row ≡ get_or rows i row
    → numbered lines k (take (suc i) rows) ≡ numbered lines k (take i rows) ++ lines (k + i) row
numbered_step lines k [] i row lt is = absurd (omega arith)
numbered_step lines k (r ∷ rows) zero row lt is =
    append-nil (lines k r) ∙ ap (lines k) (sym is) ∙ ap (λ (n : ℕ). lines n row) (sym (add-zero k))
numbered_step lines k (r ∷ rows) (suc i) row lt is =
    let rest = numbered_step lines (suc k) rows i row (omega arith) is in
    let place : suc k + i ≡ k + suc i = omega arith in
    ap (λ (t : List ℕ). lines k r ++ t) rest ∙ sym (append_assoc (lines k r) (numbered lines (suc k) (take i rows)) (lines (suc k + i) row))
    ∙ ap (λ (n : ℕ). (lines k r ++ numbered lines (suc k) (take i rows)) ++ lines n row) place

-- one more row goes over to what was printed
pub numbered_more : {A : Type 0} (lines : ℕ → A → List ℕ) (out now new : List ℕ) (rows : List A) (i k : ℕ) (row : A) → i < length rows
    → row ≡ get_or rows i row → k ≡ 1 + i → now ≡ out ++ numbered lines 1 (take i rows) → new ≡ now ++ lines k row
    → new ≡ out ++ numbered lines 1 (take (i + 1) rows)
numbered_more lines out now new rows i k row lt is number before after =
    let step = numbered_step lines 1 rows i row lt is in
    after ∙ ap (λ (t : List ℕ). t ++ lines k row) before ∙ append_assoc out (numbered lines 1 (take i rows)) (lines k row)
    ∙ ap (λ (n : ℕ). out ++ (numbered lines 1 (take i rows) ++ lines n row)) number
    ∙ ap (λ (t : List ℕ). out ++ t) (sym step) ∙ ap (λ (n : ℕ). out ++ numbered lines 1 (take n rows)) (sym (add-one i))
