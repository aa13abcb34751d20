-- The operations of a text, one after another.
use Rattle.std.proofs.Common.{◌≡◌, ℕ, zero, suc, ◌+◌, ◌≤◌, List, [], ◌∷◌, ◌++◌, length, drop, Some, refl, ap, sym, ◌∙◌, arith, length-drop}
use Rattle.std.specs.List.{slice_get}
use Rattle.std.proofs.lemmas.List.{drop-append-le}
use Rattle.nats_lines.specs.Operations.{Operation, Front, unfinished, got, fault, front, past, behind, onto_operations, operations_within, operations}
use Rattle.nats_lines.specs.Laws.{IsGot, AllThere}
use Rattle.nats_lines.proofs.Fronts.{front_more, front_fits, front_takes}

-- a text with an operation at its front, and no more bytes than 0
no_bytes : (bytes : List ℕ) (found : Front) → front bytes ≡ found → length bytes ≤ 0 → (rest : List Operation) → [] ≡ onto_operations found rest
no_bytes bytes (got op n) is short rest = absurd (omega (arith, front_fits bytes op n is, front_takes bytes op n is))
no_bytes bytes unfinished is short rest = refl
no_bytes bytes (fault n) is short rest = refl

step_same : (bytes : List ℕ) (found : Front) (most other : ℕ) → front bytes ≡ found → length bytes ≤ suc most → length bytes ≤ suc other
    → ((rest : List ℕ) → length rest ≤ most → length rest ≤ other → operations_within most rest ≡ operations_within other rest)
    → onto_operations found (operations_within most (past found bytes)) ≡ onto_operations found (operations_within other (past found bytes))
step_same bytes (got op n) most other is low high same =
    let short : length (drop n bytes) + 1 ≤ length bytes =
    omega (arith, length-drop n bytes, front_takes bytes op n is, front_fits bytes op n is) in
    ap (λ (ops : List Operation). op ∷ ops) (same (drop n bytes) (omega arith) (omega arith))
step_same bytes unfinished most other is low high same = refl
step_same bytes (fault n) most other is low high same = refl

-- as many steps as there are bytes are enough
pub within_same : (most other : ℕ) (bytes : List ℕ) → length bytes ≤ most → length bytes ≤ other
    → operations_within most bytes ≡ operations_within other bytes
within_same zero zero bytes low high = refl
within_same zero (suc other) bytes low high = no_bytes bytes (front bytes) refl low _
within_same (suc most) zero bytes low high = sym (no_bytes bytes (front bytes) refl high _)
within_same (suc most) (suc other) bytes low high =
    step_same bytes (front bytes) most other refl low high (λ rest a b. within_same most other rest a b)

next_within : (most : ℕ) (bytes : List ℕ) (op : Operation) (n : ℕ) → front bytes ≡ got op n → length bytes ≤ most
    → operations_within most bytes ≡ op ∷ operations (drop n bytes)
next_within zero bytes op n is low = absurd (omega (arith, front_fits bytes op n is, front_takes bytes op n is))
next_within (suc most) bytes op n is low =
    let short : length (drop n bytes) ≤ most =
    omega (arith, length-drop n bytes, front_takes bytes op n is, front_fits bytes op n is) in
    rw is (ap (λ (ops : List Operation). op ∷ ops) (within_same most (length (drop n bytes)) (drop n bytes) short (omega arith)))

-- where an operation stands at the front it is the first, and the others follow
pub operations_next : (bytes : List ℕ) (op : Operation) (n : ℕ) → front bytes ≡ got op n → operations bytes ≡ op ∷ operations (drop n bytes)
operations_next bytes op n is = next_within (length bytes) bytes op n is (omega arith)

none_step : (found : Front) (rest : List Operation) → ¬ (IsGot found) → onto_operations found rest ≡ []
none_step (got op n) rest never = absurd (never tt)
none_step unfinished rest never = refl
none_step (fault n) rest never = refl

none_within : (most : ℕ) (bytes : List ℕ) → ¬ (IsGot (front bytes)) → operations_within most bytes ≡ []
none_within zero bytes never = refl
none_within (suc most) bytes never = none_step (front bytes) _ never

-- and else there is none
pub operations_none : (bytes : List ℕ) → ¬ (IsGot (front bytes)) → operations bytes ≡ []
operations_none bytes never = none_within (length bytes) bytes never

at_step : (bytes : List ℕ) (found : Front) (count : ℕ) (op : Operation) → front bytes ≡ found → IsGot found
    → slice_get (operations (past found bytes)) count ≡ Some op → slice_get (operations bytes) (suc count) ≡ Some op
at_step bytes (got first n) count op is there later = rw (operations_next bytes first n is) later
at_step bytes unfinished count op is there later = absurd there
at_step bytes (fault n) count op is there later = absurd there

pub operation_at : (count : ℕ) (bytes : List ℕ) (op : Operation) (n : ℕ) → AllThere count bytes → front (behind count bytes) ≡ got op n
    → slice_get (operations bytes) count ≡ Some op
operation_at zero bytes op n there is = rw (operations_next bytes op n is) refl
operation_at (suc count) bytes op n there is =
    at_step bytes (front bytes) count op refl there.0 (operation_at count (past (front bytes) bytes) op n there.1 is)

end_step : (bytes : List ℕ) (found : Front) (count : ℕ) → front bytes ≡ found → IsGot found
    → length (operations (past found bytes)) ≡ count → length (operations bytes) ≡ suc count
end_step bytes (got first n) count is there later = rw (operations_next bytes first n is) (ap suc later)
end_step bytes unfinished count is there later = absurd there
end_step bytes (fault n) count is there later = absurd there

pub operations_end : (count : ℕ) (bytes : List ℕ) → AllThere count bytes → ¬ (IsGot (front (behind count bytes)))
    → length (operations bytes) ≡ count
operations_end zero bytes there never = rw (operations_none bytes never) refl
operations_end (suc count) bytes there never =
    end_step bytes (front bytes) count refl there.0 (operations_end count (past (front bytes) bytes) there.1 never)

-- one text in two pieces
abbrev IsCut : List ℕ → List ℕ → Type 0
IsCut bytes more = operations (bytes ++ more) ≡ operations bytes ++ operations (behind (length (operations bytes)) bytes ++ more)

cut_step : (bytes more : List ℕ) (found : Front) → front bytes ≡ found
    → ((op : Operation) (n : ℕ) → found ≡ got op n → IsCut (drop n bytes) more) → IsCut bytes more
cut_step bytes more (got op n) is later =
    let rest = operations (drop n bytes) in
    let first : operations bytes ≡ op ∷ rest = operations_next bytes op n is in
    operations_next (bytes ++ more) op n (front_more bytes more op n is)
    ∙ ap (λ (text : List ℕ). op ∷ operations text) (drop-append-le n bytes more (front_fits bytes op n is))
    ∙ ap (λ (ops : List Operation). op ∷ ops) (later op n refl)
    ∙ ap (λ (found : Front). (op ∷ rest) ++ operations (behind (length rest) (past found bytes) ++ more)) (sym is)
    ∙ ap (λ (ops : List Operation). ops ++ operations (behind (length ops) bytes ++ more)) (sym first)
cut_step bytes more unfinished is later =
    let none : operations bytes ≡ [] = operations_none bytes (λ (there : IsGot (front bytes)). rw is at there) in
    rw none refl
cut_step bytes more (fault n) is later =
    let none : operations bytes ≡ [] = operations_none bytes (λ (there : IsGot (front bytes)). rw is at there) in
    rw none refl

cut_within : (most : ℕ) (bytes more : List ℕ) → length bytes ≤ most → IsCut bytes more
cut_within zero bytes more low =
    cut_step bytes more (front bytes) refl (λ op n is. absurd (omega (arith, front_fits bytes op n is, front_takes bytes op n is)))
cut_within (suc most) bytes more low =
    cut_step bytes more (front bytes) refl (λ op n is.
    cut_within most (drop n bytes) more (omega (arith, length-drop n bytes, front_fits bytes op n is, front_takes bytes op n is)))

-- a text that comes in two pieces has the operations of the first, then those of what they leave and the second
pub operations_cut : (bytes more : List ℕ)
    → operations (bytes ++ more) ≡ operations bytes ++ operations (behind (length (operations bytes)) bytes ++ more)
operations_cut bytes more = cut_within (length bytes) bytes more (omega arith)
