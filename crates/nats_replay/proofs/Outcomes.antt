-- From what was read to what it comes to; and the words that play a script.
use Rattle.std.proofs.Common.{inl, refl, ◌≡◌, ℕ, ◌<◌, ◌≤◌, Bool, true, false, List, [], ◌∷◌, length, get_or, map, Option, Some, None, Result, Ok, Err, sym, ap, subst, ◌∙◌, arith}
use Rattle.std.specs.Prelude.{◌≢◌, ◌⊎◌, IfSome, MatchBool, codes, if◌then◌else◌}
use Rattle.std.specs.Str.{bytes_eq}
use Rattle.std.proofs.lemmas.Slice.Eq.{bytes_eq-Decides}
use Rattle.nats_replay.specs.declared.top.Refusal.{Refusal}
use Rattle.nats_replay.specs.declared.top.Refusal.TheVariants.{ReadFault, NoMemory, TooLong}
use Rattle.nats_replay.specs.declared.top.Output.{Output}
use Rattle.nats_replay.specs.Outside.{Rose, Tally}
use Rattle.nats_replay.specs.declared.top.Ending.{Ending}
use Rattle.nats_replay.specs.declared.top.Ending.TheVariants.{Transcript, Unreadable, OutOfTurn}
use Rattle.nats_replay.specs.declared.asked.Asked.TheVariants.{Route}
use Rattle.nats_replay.specs.Asked.{asked_by}
use Rattle.nats_replay.specs.Words.{run_words, bulk_count, Prints, IsPlayable}
use Rattle.nats_replay.specs.Played.{ComesBy, Whole, PlayedBy, status_of_ending}
use Rattle.nats_replay.specs.declared.whole.TheConstants.{SCRIPT_LIMIT}

-- what is so of the bytes that were read is so of those that were held
held_is : (held : Option (List ℕ)) (bytes : List ℕ) (Is : List ℕ → Type 0) → IfSome held (λ h. h ≡ bytes) → Is bytes → IfSome held Is
held_is None bytes Is e h = tt
held_is (Some x) bytes Is e h = subst Is (sym e) h

abbrev pub Parts : Option (List ℕ) → Tally → Tally → List ℕ → Type 0
Parts held before after bytes = IfSome held (λ h. h ≡ bytes) × (length bytes ≤ SCRIPT_LIMIT) × Rose before.ends after.ends

whole_is : (held : Option (List ℕ)) (before after : Tally) (bytes : List ℕ) (Is : List ℕ → Type 0) → Parts held before after bytes → Is bytes → Whole held before after Is
whole_is held before after bytes Is read h =
    (held_is held bytes Is read.0 h, held_is held bytes (λ b. length b ≤ SCRIPT_LIMIT) read.0 read.1, read.2)

-- what the bytes that were read come to is what the source's bytes come to
pub played : (Says : Ending → List ℕ → List ℕ → Type 0) (held : Option (List ℕ)) (before after : Tally) (bytes : List ℕ) (r : Result Output Refusal)
    → Parts held before after bytes → ComesBy Says bytes r → PlayedBy Says held before after r
played Says held before after bytes (Ok output) read h = whole_is held before after bytes (λ b. Says output.ending b output.text.items) read h
played Says held before after bytes (Err NoMemory) read h = tt
played Says held before after bytes (Err ReadFault) read h = absurd h
played Says held before after bytes (Err TooLong) read h = absurd h

-- a script that can be played ends with its transcript
plays_out : (ending : Ending) (bytes text : List ℕ) → Prints ending bytes text → IsPlayable bytes → status_of_ending ending ≡ 0
plays_out Transcript bytes text prints playable = refl
plays_out Unreadable bytes text (line, bad, is) (short, config, turns, good, none) = absurd (cc)
plays_out OutOfTurn bytes text (config, turns, place, good, out, is) (short, config', turns', good', none) = absurd (cc)

-- so does one that a source held
pub completes : (A B : Type 0) (held : Option (List ℕ)) (ending : Ending) (text : List ℕ) (status : ℕ) → status ≡ status_of_ending ending
    → IfSome held (λ bytes. Prints ending bytes text) → IfSome held (λ bytes. IsPlayable bytes → A → B → (status ≡ 0) ⊎ (status ≡ 7))
completes A B None ending text status is prints = tt
completes A B (Some bytes) ending text status is prints = λ playable a b. inl (is ∙ plays_out ending bytes text prints playable)

-- ---- words

pub one_word : {A : Type 0} (text : A → List ℕ) (words : List A) (word : A) → 1 ≤ length words → length words < 2 → word ≡ get_or words 0 word → map text words ≡ text word ∷ []
one_word text [] word some few is = absurd (omega arith)
one_word text (w ∷ []) word some few is = ap (λ (t : List ℕ). t ∷ []) (sym (ap text is))
one_word text (w ∷ v ∷ words) word some few is = absurd (omega arith)

first_is : (a b : List ℕ) → a ∷ [] ≡ b ∷ [] → a ≡ b
first_is a b e = cc

not_both : (b : Bool) → b ≡ false → b ≡ true → ⊥
not_both b e h = cc

pub run_is : (texts : List (List ℕ)) (text : List ℕ) (b : Bool) → texts ≡ text ∷ [] → b ≡ bytes_eq text (codes "run") → MatchBool b (texts ≡ run_words) (texts ≢ run_words)
run_is texts text true one is = one ∙ ap (λ (t : List ℕ). t ∷ []) ((bytes_eq-Decides text (codes "run")).0 (sym is))
run_is texts text false one is = λ e. not_both (bytes_eq text (codes "run")) (sym is) ((bytes_eq-Decides text (codes "run")).1 (first_is text (codes "run") (sym one ∙ e)))

-- fewer words than two, and more, ask for no list
pub fewer_count_none : {A : Type 0} (text : A → List ℕ) (words : List A) → length words < 2 → None ≡ bulk_count (map text words)
fewer_count_none text [] few = refl
fewer_count_none text (w ∷ []) few = refl
fewer_count_none text (w ∷ n ∷ words) few = absurd (omega arith)

pub more_count_none : {A : Type 0} (text : A → List ℕ) (words : List A) → 3 ≤ length words → None ≡ bulk_count (map text words)
more_count_none text [] many = absurd (omega arith)
more_count_none text (w ∷ []) many = absurd (omega arith)
more_count_none text (w ∷ n ∷ []) many = absurd (omega arith)
more_count_none text (w ∷ n ∷ v ∷ words) many = refl

-- ---- words that ask for a script of another kind

pub route_is : (texts : List (List ℕ)) (text : List ℕ) (b : Bool) → texts ≡ text ∷ [] → b ≡ bytes_eq text (codes "route")
    → asked_by texts ≡ (if b then Some Route else None)
route_is texts text b one is = rw (one, is) refl

pub three_words : {A : Type 0} (text : A → List ℕ) (words : List A) (a b c : A) → 3 ≤ length words → length words < 4
    → a ≡ get_or words 0 a → b ≡ get_or words 1 b → c ≡ get_or words 2 c → map text words ≡ text a ∷ text b ∷ text c ∷ []
three_words text [] a b c some few p q r = absurd (omega arith)
three_words text (x ∷ []) a b c some few p q r = absurd (omega arith)
three_words text (x ∷ y ∷ []) a b c some few p q r = absurd (omega arith)
three_words text (x ∷ y ∷ z ∷ []) a b c some few p q r = rw (p, q, r) refl
three_words text (x ∷ y ∷ z ∷ w ∷ words) a b c some few p q r = absurd (omega arith)

pub none_not_asked : {A : Type 0} (text : A → List ℕ) (words : List A) → length words < 1 → None ≡ asked_by (map text words)
none_not_asked text [] few = refl
none_not_asked text (w ∷ words) few = absurd (omega arith)

pub two_not_asked : {A : Type 0} (text : A → List ℕ) (words : List A) → 2 ≤ length words → length words < 3 → None ≡ asked_by (map text words)
two_not_asked text [] some few = absurd (omega arith)
two_not_asked text (w ∷ []) some few = absurd (omega arith)
two_not_asked text (w ∷ v ∷ []) some few = refl
two_not_asked text (w ∷ v ∷ u ∷ words) some few = absurd (omega arith)

pub more_not_asked : {A : Type 0} (text : A → List ℕ) (words : List A) → 4 ≤ length words → None ≡ asked_by (map text words)
more_not_asked text [] many = absurd (omega arith)
more_not_asked text (w ∷ []) many = absurd (omega arith)
more_not_asked text (w ∷ v ∷ []) many = absurd (omega arith)
more_not_asked text (w ∷ v ∷ u ∷ []) many = absurd (omega arith)
more_not_asked text (w ∷ v ∷ u ∷ t ∷ words) many = refl
