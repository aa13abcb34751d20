-- A text cut at its first byte of one value.
use Rattle.std.proofs.Common.{◌≡◌, ℕ, zero, suc, ◌<◌, Bool, true, false, cond, eqb, List, [], ◌∷◌, length, get_or, take, drop, Option, Some, None, refl, sym, ap, ◌∙◌, arith}
use Rattle.std.specs.List.{onto_first}
use Rattle.std.proofs.lemmas.List.Splits.{slice_split-cons_yes, slice_split-cons_no}
use Rattle.nats_spelling.specs.Cut.{parts_at, without_empty_last, only, parts_behind, IsFirstLine}

-- the parts of a list: a first one, and more
pub record Parts (parts : List (List ℕ)) : Type 0 where
  pub first : List ℕ
  pub more : List (List ℕ)
  pub are : parts ≡ first ∷ more

onto_parts : (x : ℕ) (parts : List (List ℕ)) → Parts (onto_first x parts)
onto_parts x [] = record { first = x ∷ []; more = []; are = refl }
onto_parts x (part ∷ parts) = record { first = x ∷ part; more = parts; are = refl }

pub parts_of : (byte : ℕ) (text : List ℕ) → Parts (parts_at byte text)
parts_of byte [] = record { first = []; more = []; are = refl }
parts_of byte (x ∷ xs) =
    elim (eqb x byte) as (λ b. Parts (cond b ([] ∷ parts_at byte xs) (onto_first x (parts_at byte xs)))) [
      | true ↦ record { first = []; more = parts_at byte xs; are = refl }
      | false ↦ onto_parts x (parts_at byte xs)
    ]

-- the test of a byte that does not pass
fails : (b : Bool) → (b ≡ true → ⊥) → b ≡ false
fails true h = absurd (h refl)
fails false h = refl

pub cut_at : (byte : ℕ) (text : List ℕ) (end : ℕ) → end < length text → ((k : ℕ) → k < end → eqb (get_or text k 0) byte ≡ true → ⊥)
    → eqb (get_or text end 0) byte ≡ true → parts_at byte text ≡ take end text ∷ parts_at byte (drop (suc end) text)
cut_at byte [] end lt none passes = absurd (omega arith)
cut_at byte (x ∷ xs) zero lt none passes = slice_split-cons_yes (λ b. eqb b byte) x xs passes
cut_at byte (x ∷ xs) (suc end) lt none passes =
    let no : eqb x byte ≡ false = fails (eqb x byte) (none 0 (omega arith)) in
    let rest = cut_at byte xs end (omega arith) (λ k below e. none (suc k) (omega arith) e) passes in
    slice_split-cons_no (λ b. eqb b byte) x xs no ∙ ap (onto_first x) rest

pub not_cut : (byte : ℕ) (text : List ℕ) → ((k : ℕ) → k < length text → eqb (get_or text k 0) byte ≡ true → ⊥) → parts_at byte text ≡ text ∷ []
not_cut byte [] none = refl
not_cut byte (x ∷ xs) none =
    let no : eqb x byte ≡ false = fails (eqb x byte) (none 0 (omega arith)) in
    slice_split-cons_no (λ b. eqb b byte) x xs no ∙ ap (onto_first x) (not_cut byte xs (λ k below e. none (suc k) (omega arith) e))

without_empty_more : (line : List ℕ) (parts : List (List ℕ)) → Parts parts → without_empty_last (line ∷ parts) ≡ line ∷ without_empty_last parts
without_empty_more line parts p = rw p.are refl

-- the first line of a text, where a line feed ends it
pub first_of_lines : (text line rest : List ℕ) (behind : Option (List ℕ)) → behind ≡ Some rest → parts_at 10 text ≡ line ∷ parts_behind 10 behind
    → length rest < length text → IsFirstLine text line rest
first_of_lines text line rest behind is parts shorter =
    let cut : parts_at 10 text ≡ line ∷ parts_at 10 rest = parts ∙ ap (λ (b : Option (List ℕ)). line ∷ parts_behind 10 b) is in
    record { lines = ap without_empty_last cut ∙ without_empty_more line (parts_at 10 rest) (parts_of 10 rest); shorter = shorter }

abbrev none : Option (List ℕ)
none = None

-- the only line of a text
pub last_of_lines : (text line : List ℕ) (behind : Option (List ℕ)) → behind ≡ none → eqb (length text) 0 ≡ false → parts_at 10 text ≡ line ∷ parts_behind 10 behind
    → line ≡ text → IsFirstLine text line []
last_of_lines [] line behind is some parts whole = absurd cc
last_of_lines (b ∷ bytes) line behind is some parts whole =
    let cut : parts_at 10 (b ∷ bytes) ≡ (b ∷ bytes) ∷ [] = parts ∙ ap (λ (b : Option (List ℕ)). line ∷ parts_behind 10 b) is ∙ ap (λ (l : List ℕ). l ∷ []) whole in
    record { lines = ap without_empty_last cut ∙ ap (λ (l : List ℕ). l ∷ []) (sym whole); shorter = omega arith }

-- where more fields follow one, it is not the only one
pub not_only : (all : Option (List ℕ)) (fields field rest : List ℕ) (behind : Option (List ℕ)) → all ≡ Some fields → behind ≡ Some rest
    → parts_at 32 fields ≡ field ∷ parts_behind 32 behind → none ≡ only (parts_behind 32 all)
not_only all fields field rest behind all-is is parts =
    let p = parts_of 32 rest in
    let cut : parts_at 32 fields ≡ field ∷ p.first ∷ p.more = parts ∙ ap (λ (b : Option (List ℕ)). field ∷ parts_behind 32 b) is ∙ ap (λ (more : List (List ℕ)). field ∷ more) p.are in
    sym (ap (λ (a : Option (List ℕ)). only (parts_behind 32 a)) all-is ∙ ap only cut)
