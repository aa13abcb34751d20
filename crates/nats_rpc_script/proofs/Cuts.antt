-- A text cut at its first byte of one value.
use Rattle.std.proofs.Common.{◌≡◌, ℕ, zero, suc, ◌<◌, Bool, true, false, cond, eqb, List, [], ◌∷◌, ◌++◌, length, get_or, take, drop, Option, Some, None, Result, Ok, Err, refl, sym, ap, ◌∙◌, append_assoc, arith}
use Rattle.std.specs.List.{onto_first}
use Rattle.std.specs.Prelude.{OnOk, codes}
use Rattle.std.proofs.lemmas.Bool.{false≢true}
use Rattle.std.proofs.lemmas.List.{append-nil}
use Rattle.std.proofs.lemmas.List.Splits.{slice_split-cons_yes, slice_split-cons_no}
use Rattle.nats_spelling.specs.Cut.{parts_at, without_empty_last, parts_behind, IsFirstLine}
use Rattle.nats_rpc_script.specs.Lines.{before, behind, kind_of_word, kind_by, or_nothing, payload_of}
use Rattle.nats_rpc_script.specs.declared.lines.Kind.TheVariants as kinds

-- the parts of a list: a first one, and more
pub record Parts (parts : List (List ℕ)) : Type 0 where
  pub first : List ℕ
  pub more : List (List ℕ)
  pub are : parts ≡ first ∷ more

onto_parts : (x : ℕ) (parts : List (List ℕ)) → Parts (onto_first x parts)
onto_parts x [] = record { first = x ∷ []; more = []; are = refl }
onto_parts x (part ∷ parts) = record { first = x ∷ part; more = parts; are = refl }

pub parts_of : (byte : ℕ) (text : List ℕ) → Parts (parts_at byte text)
parts_of byte [] = record { first = []; more = []; are = refl }
parts_of byte (x ∷ xs) =
    elim (eqb x byte) as (λ b. Parts (cond b ([] ∷ parts_at byte xs) (onto_first x (parts_at byte xs)))) [
      | true ↦ record { first = []; more = parts_at byte xs; are = refl }
      | false ↦ onto_parts x (parts_at byte xs)
    ]

-- the test of a byte that does not pass
fails : (b : Bool) → (b ≡ true → ⊥) → b ≡ false
fails true h = absurd (h refl)
fails false h = refl

pub cut_at : (byte : ℕ) (text : List ℕ) (end : ℕ) → end < length text
    → ((k : ℕ) → k < end → eqb (get_or text k 0) byte ≡ true → ⊥)
    → eqb (get_or text end 0) byte ≡ true → parts_at byte text ≡ take end text ∷ parts_at byte (drop (suc end) text)
cut_at byte [] end lt none passes = absurd (omega arith)
cut_at byte (x ∷ xs) zero lt none passes = slice_split-cons_yes (λ b. eqb b byte) x xs passes
cut_at byte (x ∷ xs) (suc end) lt none passes =
    let no : eqb x byte ≡ false = fails (eqb x byte) (none 0 (omega arith)) in
    let rest = cut_at byte xs end (omega arith) (λ k below e. none (suc k) (omega arith) e) passes in
    slice_split-cons_no (λ b. eqb b byte) x xs no ∙ ap (onto_first x) rest

pub not_cut : (byte : ℕ) (text : List ℕ) → ((k : ℕ) → k < length text → eqb (get_or text k 0) byte ≡ true → ⊥)
    → parts_at byte text ≡ text ∷ []
not_cut byte [] none = refl
not_cut byte (x ∷ xs) none =
    let no : eqb x byte ≡ false = fails (eqb x byte) (none 0 (omega arith)) in
    slice_split-cons_no (λ b. eqb b byte) x xs no ∙ ap (onto_first x)
    (not_cut byte xs (λ k below e. none (suc k) (omega arith) e))

without_empty_more : (line : List ℕ) (parts : List (List ℕ)) → Parts parts
    → without_empty_last (line ∷ parts) ≡ line ∷ without_empty_last parts
without_empty_more line parts p = rw p.are refl

-- the first line of a text, where a line feed ends it
pub first_of_lines : (text line rest : List ℕ) (behind : Option (List ℕ)) → behind ≡ Some rest
    → parts_at 10 text ≡ line ∷ parts_behind 10 behind
    → length rest < length text → IsFirstLine text line rest
first_of_lines text line rest behind is parts shorter =
    let cut : parts_at 10 text ≡ line ∷ parts_at 10 rest = parts ∙ ap
    (λ (b : Option (List ℕ)). line ∷ parts_behind 10 b) is in
    record {
      lines = ap without_empty_last cut ∙ without_empty_more line (parts_at 10 rest) (parts_of 10 rest);
      shorter = shorter;
    }

abbrev none : Option (List ℕ)
none = None

-- the only line of a text
pub last_of_lines : (text line : List ℕ) (behind : Option (List ℕ)) → behind ≡ none → eqb (length text) 0 ≡ false
    → parts_at 10 text ≡ line ∷ parts_behind 10 behind
    → line ≡ text → IsFirstLine text line []
last_of_lines [] line behind is some parts whole = absurd cc
last_of_lines (b ∷ bytes) line behind is some parts whole =
    let cut : parts_at 10 (b ∷ bytes) ≡ (b ∷ bytes) ∷ [] = parts ∙ ap
    (λ (b : Option (List ℕ)). line ∷ parts_behind 10 b) is ∙ ap (λ (l : List ℕ). l ∷ []) whole in
    record { lines = ap without_empty_last cut ∙ ap (λ (l : List ℕ). l ∷ []) (sym whole); shorter = omega arith }

-- ---- what stands before a byte and behind it

when : {A : Type 0} (b : Bool) (x y : A) → b ≡ true → x ≡ cond b x y
when true x y e = refl
when false x y e = absurd (false≢true e)

unless : {A : Type 0} (b : Bool) (x y : A) → b ≡ false → y ≡ cond b x y
unless false x y e = refl
unless true x y e = absurd (false≢true (sym e))

pub before_at : (byte : ℕ) (text : List ℕ) (end : ℕ) → end < length text
    → ((k : ℕ) → k < end → eqb (get_or text k 0) byte ≡ true → ⊥) → eqb (get_or text end 0) byte ≡ true
    → take end text ≡ before byte text
before_at byte [] end lt none passes = absurd (omega arith)
before_at byte (x ∷ xs) zero lt none passes = when (eqb x byte) [] (x ∷ before byte xs) passes
before_at byte (x ∷ xs) (suc end) lt none passes =
    ap (λ more. x ∷ more) (before_at byte xs end (omega arith) (λ k below e. none (suc k) (omega arith) e) passes)
    ∙ unless (eqb x byte) [] (x ∷ before byte xs) (fails (eqb x byte) (none 0 (omega arith)))

pub behind_at : (byte : ℕ) (text : List ℕ) (end : ℕ) → end < length text
    → ((k : ℕ) → k < end → eqb (get_or text k 0) byte ≡ true → ⊥) → eqb (get_or text end 0) byte ≡ true
    → Some (drop (suc end) text) ≡ behind byte text
behind_at byte [] end lt none passes = absurd (omega arith)
behind_at byte (x ∷ xs) zero lt none passes = when (eqb x byte) (Some xs) (behind byte xs) passes
behind_at byte (x ∷ xs) (suc end) lt none passes =
    behind_at byte xs end (omega arith) (λ k below e. none (suc k) (omega arith) e) passes
    ∙ unless (eqb x byte) (Some xs) (behind byte xs) (fails (eqb x byte) (none 0 (omega arith)))

pub all_before : (byte : ℕ) (text : List ℕ)
    → ((k : ℕ) → k < length text → eqb (get_or text k 0) byte ≡ true → ⊥) → text ≡ before byte text
all_before byte [] none = refl
all_before byte (x ∷ xs) none =
    ap (λ more. x ∷ more) (all_before byte xs (λ k below e. none (suc k) (omega arith) e))
    ∙ unless (eqb x byte) [] (x ∷ before byte xs) (fails (eqb x byte) (none 0 (omega arith)))

pub none_behind : (byte : ℕ) (text : List ℕ)
    → ((k : ℕ) → k < length text → eqb (get_or text k 0) byte ≡ true → ⊥) → none ≡ behind byte text
none_behind byte [] no_byte = refl
none_behind byte (x ∷ xs) no_byte =
    none_behind byte xs (λ k below e. no_byte (suc k) (omega arith) e)
    ∙ unless (eqb x byte) (Some xs) (behind byte xs) (fails (eqb x byte) (no_byte 0 (omega arith)))

-- ---- what a line asks for

pub kind_some : (found word : List ℕ) (fields : Option (List ℕ)) (text : List ℕ) → found ≡ word → fields ≡ Some text
    → kind_of_word found ≡ kind_by word fields
kind_some found word fields text same is = ap kind_of_word same ∙ ap (kind_by word) (sym is)

pub kind_none : (word : List ℕ) (fields : Option (List ℕ)) → fields ≡ none → kinds.Turn ≡ kind_by word fields
kind_none word fields is = ap (kind_by word) (sym is)

pub fields_some : (fields : Option (List ℕ)) (text : List ℕ) → fields ≡ Some text → text ≡ or_nothing fields
fields_some fields text is = ap or_nothing (sym is)

pub fields_none : (fields : Option (List ℕ)) → fields ≡ none → [] ≡ or_nothing fields
fields_none fields is = ap or_nothing (sym is)

-- ---- lines as a script of turns has them

-- a call with its payload
pub asked_some : {E : Type 0} (r : Result (Unit {0}) E) (old mid new word tilde subject payload front fields : List ℕ)
    (rest : Option (List ℕ))
    → mid ≡ old ++ (word ++ subject) → OnOk r (new ≡ mid ++ (tilde ++ payload)) → subject ≡ before 32 fields
    → rest ≡ behind 32 fields → rest ≡ Some payload → fields ≡ front → tilde ≡ codes " ~ "
    → OnOk r (new ≡ old ++ (word ++ before 32 front ++ payload_of (behind 32 front)))
asked_some (Err e) old mid new word tilde subject payload front fields rest is then first so some same sign = tt
asked_some (Ok u) old mid new word tilde subject payload front fields rest is then first so some same sign =
    then ∙ ap (λ (xs : List ℕ). xs ++ (tilde ++ payload)) is ∙ append_assoc old (word ++ subject) (tilde ++ payload)
    ∙ ap (λ (xs : List ℕ). old ++ (word ++ xs ++ (tilde ++ payload))) (first ∙ ap (before 32) same)
    ∙ ap (λ (xs : List ℕ). old ++ (word ++ before 32 front ++ (xs ++ payload))) sign
    ∙ ap (λ (o : Option (List ℕ)). old ++ (word ++ before 32 front ++ payload_of o))
    (sym some ∙ so ∙ ap (behind 32) same)

-- and without one
pub asked_none : (old new word subject front fields : List ℕ) (rest : Option (List ℕ))
    → new ≡ old ++ (word ++ subject) → subject ≡ before 32 fields → rest ≡ behind 32 fields → rest ≡ none
    → fields ≡ front → new ≡ old ++ (word ++ before 32 front ++ payload_of (behind 32 front))
asked_none old new word subject front fields rest is first so empty same =
    is ∙ ap (λ (xs : List ℕ). old ++ (word ++ xs)) (first ∙ ap (before 32) same)
    ∙ ap (λ (xs : List ℕ). old ++ xs) (sym (append-nil (word ++ before 32 front)))
    ∙ ap (λ (o : Option (List ℕ)). old ++ (word ++ before 32 front ++ payload_of o))
    (sym empty ∙ so ∙ ap (behind 32) same)

-- a line of a turn
pub turn_kept : (own : Bool) (old new line : List ℕ) → new ≡ old ++ line → own ≡ false
    → new ≡ old ++ cond own [] line
turn_kept own old new line is other =
    is ∙ ap (λ (b : Bool). old ++ cond b [] line) (sym other)

pub turn_left : (own : Bool) (old line : List ℕ) → own ≡ true → old ≡ old ++ cond own [] line
turn_left own old line is = sym (append-nil old) ∙ ap (λ (b : Bool). old ++ cond b [] line) (sym is)
