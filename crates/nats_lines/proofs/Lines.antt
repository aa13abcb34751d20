-- Where CR LF first stands is where a text is cut.
use Rattle.std.proofs.Common.{◌≡◌, ℕ, zero, suc, ◌+◌, ◌<◌, ◌≤◌, Bool, true, false, List, [], ◌∷◌, length, take, drop, Option, Some, None, refl, ap, arith, tests, lit<, option_map}
use Rattle.std.specs.Prelude.{◌==◌, ◌&&◌, slice_index, if◌then◌else◌}
use Rattle.memchr.specs.Find.{OccursAt, FindsNeedle}
use Rattle.nats_lines.specs.Operations.{Cut, onto_line, cut_line}
use Rattle.nats_message.specs.Content.{crlf}

reads_both : (a b : ℕ) (rest : List ℕ) → a ≡ 13 → b ≡ 10 → (j : ℕ) → j < 2 → slice_index (a ∷ b ∷ rest) (0 + j) ≡ slice_index crlf j
reads_both a b rest p q zero h = p
reads_both a b rest p q (suc zero) h = q
reads_both a b rest p q (suc (suc j)) h = absurd (omega arith)

at_head : (a b : ℕ) (rest : List ℕ) → (a == 13 && b == 10) ≡ true → OccursAt (a ∷ b ∷ rest) crlf 0
at_head a b rest passes =
    let p : a ≡ 13 = grind (arith, tests) in
    let q : b ≡ 10 = grind (arith, tests) in
    record { fits = omega arith; reads = reads_both a b rest p q }

not_at_head : (a b : ℕ) (rest : List ℕ) → (a == 13 && b == 10) ≡ false → OccursAt (a ∷ b ∷ rest) crlf 0 → ⊥
not_at_head a b rest never occurs =
    let p : a ≡ 13 = occurs.reads 0 (lit< tt) in
    let q : b ≡ 10 = occurs.reads 1 (lit< tt) in
    grind (arith, tests)

shift_up : (a : ℕ) (rest : List ℕ) (k : ℕ) → OccursAt rest crlf k → OccursAt (a ∷ rest) crlf (suc k)
shift_up a rest k occurs = record {
  fits = omega (arith, occurs.fits);
  reads = λ j h. let e : suc k + j ≡ suc (k + j) = omega arith in rw e (occurs.reads j h);
}

shift_down : (a : ℕ) (rest : List ℕ) (k : ℕ) → OccursAt (a ∷ rest) crlf (suc k) → OccursAt rest crlf k
shift_down a rest k occurs = record {
  fits = omega (arith, occurs.fits);
  reads = λ j h. let e : suc k + j ≡ suc (k + j) = omega arith in rw e at (occurs.reads j h);
}

cut_none_step : (test : Bool) (a b : ℕ) (rest : List ℕ) (inner : Option Cut)
    → (a == 13 && b == 10) ≡ test → (OccursAt (a ∷ b ∷ rest) crlf 0 → ⊥) → inner ≡ None
    → (if test then Some (record { line = []; rest = rest }) else option_map (onto_line a) inner) ≡ None
cut_none_step true a b rest inner is never none = absurd (never (at_head a b rest is))
cut_none_step false a b rest inner is never none = ap (option_map (onto_line a)) none

-- a text without CR LF isn't cut
pub cut_none : (bytes : List ℕ) → ((k : ℕ) → OccursAt bytes crlf k → ⊥) → cut_line bytes ≡ None
cut_none [] never = refl
cut_none (a ∷ []) never = refl
cut_none (a ∷ b ∷ rest) never =
    cut_none_step (a == 13 && b == 10) a b rest (cut_line (b ∷ rest)) refl (never 0)
    (cut_none (b ∷ rest) (λ k occurs. never (suc k) (shift_up a (b ∷ rest) k occurs)))

cut_here : (test : Bool) (a b : ℕ) (rest : List ℕ) (inner : Option Cut)
    → (a == 13 && b == 10) ≡ test → OccursAt (a ∷ b ∷ rest) crlf 0
    → (if test then Some (record { line = []; rest = rest }) else option_map (onto_line a) inner) ≡ Some (record { line = []; rest = rest })
cut_here true a b rest inner is occurs = refl
cut_here false a b rest inner is occurs = absurd (not_at_head a b rest is occurs)

cut_later : (test : Bool) (a b : ℕ) (rest : List ℕ) (inner : Option Cut) (cut : Cut)
    → (a == 13 && b == 10) ≡ test → (OccursAt (a ∷ b ∷ rest) crlf 0 → ⊥) → inner ≡ Some cut
    → (if test then Some (record { line = []; rest = rest }) else option_map (onto_line a) inner) ≡ Some (onto_line a cut)
cut_later true a b rest inner cut is never some = absurd (never (at_head a b rest is))
cut_later false a b rest inner cut is never some = ap (option_map (onto_line a)) some

-- a text is cut where CR LF first stands
pub cut_found : (bytes : List ℕ) (k : ℕ) → OccursAt bytes crlf k → ((i : ℕ) → i < k → OccursAt bytes crlf i → ⊥)
    → cut_line bytes ≡ Some (record { line = take k bytes; rest = drop (k + 2) bytes })
cut_found [] k occurs before = absurd (omega (arith, occurs.fits))
cut_found (a ∷ []) k occurs before = absurd (omega (arith, occurs.fits))
cut_found (a ∷ b ∷ rest) zero occurs before = cut_here (a == 13 && b == 10) a b rest (cut_line (b ∷ rest)) refl occurs
cut_found (a ∷ b ∷ rest) (suc k) occurs before =
    let e : suc k + 2 ≡ suc (k + 2) = omega arith in
    rw e (cut_later (a == 13 && b == 10) a b rest (cut_line (b ∷ rest)) (record { line = take k (b ∷ rest); rest = drop (k + 2) (b ∷ rest) }) refl (before 0 (omega arith))
    (cut_found (b ∷ rest) k (shift_down a (b ∷ rest) k occurs) (λ i h there. before (suc i) (omega arith) (shift_up a (b ∷ rest) i there))))

-- what a search for CR LF finds
pub cut_by_search : (bytes : List ℕ) (found : Option ℕ) → FindsNeedle bytes crlf 0 found
    → cut_line bytes ≡ option_map (λ k. record { line = take k bytes; rest = drop (k + 2) bytes }) found
cut_by_search bytes None none = cut_none bytes (λ k occurs. none k (omega arith) (omega (arith, occurs.fits)) occurs)
cut_by_search bytes (Some k) some = cut_found bytes k some.1 (λ i h. some.0.before i (omega arith) h)

-- it lies within the text, with both its bytes
pub found_within : (bytes : List ℕ) (k : ℕ) → FindsNeedle bytes crlf 0 (Some k) → k + 2 ≤ length bytes
found_within bytes k some = some.1.fits
