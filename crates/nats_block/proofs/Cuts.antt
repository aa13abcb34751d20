-- Texts that are cut at a character, into lines or at a version.
use Rattle.std.proofs.Common.{◌≡◌, ◌≢◌, ℕ, suc, ◌+◌, ◌-◌, ◌<◌, Bool, true, false, List, [], ◌∷◌, ◌++◌, length, take, drop, get_or, Option, Some, None, option_map, MatchOption, refl, ap, sym, ◌∙◌, arith, tests, Bor}
use Rattle.std.specs.Prelude.{◌==◌, nat_lt, slice_index, if◌then◌else◌}
use Rattle.std.specs.List.{slice_split, onto_first, position_or_len, before_first, after_first}
use Rattle.std.specs.Str.Lines.{lines, lines_of_parts, strip_carriage_return}
use Rattle.std.proofs.lemmas.Bool.{lt-ltb, le-ltb}
use Rattle.std.proofs.lemmas.List.Splits.{slice_split_first, length-slice_split}
use Rattle.std.proofs.lemmas.Grind.{common_steps}
use Rattle.memchr.specs.Find.{IsFirstByte, is_byte}
use Rattle.std.specs.Str.{IsUtf8, IsCharBoundary}
use Rattle.std.proofs.lemmas.List.Sums.{position_or_len_is}
use Rattle.std.proofs.lemmas.Bool.{eqb-true, eq-eqb}
use Rattle.std.proofs.lemmas.Str.{IsCharBoundary-before_ascii, IsCharBoundary-after_ascii}
use Rattle.nats_block.specs.Lines.{cut_at}

short_step : (test : Bool) (cut : List ℕ × List ℕ) → test ≡ false → None ≡ (if test then Some cut else None)
short_step true cut is = cc
short_step false cut is = refl

long_step : (test : Bool) (cut other : List ℕ × List ℕ) → test ≡ true → other ≡ cut → Some other ≡ (if test then Some cut else None)
long_step true cut other is same = ap Some same
long_step false cut other is same = cc

-- what `split_once` answers is the cut
pub cut_found : (byte : ℕ) (text : List ℕ) (r : Option (Bor (List ℕ) × Bor (List ℕ)))
    → MatchOption r (position_or_len (λ b. b == byte) text ≡ length text) (λ x. (position_or_len (λ b. b == byte) text < length text) × (x.0.now ≡ before_first (λ b. b == byte) text) × (x.1.now ≡ after_first (λ b. b == byte) text))
    → option_map (λ cut. (cut.0.now, cut.1.now)) r ≡ cut_at byte text
cut_found byte text None none =
    short_step (nat_lt (position_or_len (λ b. b == byte) text) (length text)) (before_first (λ b. b == byte) text, after_first (λ b. b == byte) text) (le-ltb (position_or_len (λ b. b == byte) text) (length text) (omega (arith, none)))
cut_found byte text (Some x) found =
    long_step (nat_lt (position_or_len (λ b. b == byte) text) (length text)) (before_first (λ b. b == byte) text, after_first (λ b. b == byte) text) (x.0.now, x.1.now) (lt-ltb (position_or_len (λ b. b == byte) text) (length text) found.0) (λ i. (found.1 i, found.2 i))

parts_step : (line : List ℕ) (parts : List (List ℕ)) → 0 < length parts → lines_of_parts (line ∷ parts) ≡ strip_carriage_return line ∷ lines_of_parts parts
parts_step line [] some = absurd (omega arith)
parts_step line (part ∷ parts) some = refl

-- a text with an LF has the line before it, and then the lines behind it
pub line_first : (text line rest stripped : List ℕ) → position_or_len (λ b. b == 10) text < length text
    → line ≡ before_first (λ b. b == 10) text → rest ≡ after_first (λ b. b == 10) text → stripped ≡ strip_carriage_return line
    → stripped ∷ lines rest ≡ lines text
line_first text line rest stripped inside front behind is =
    let first = slice_split_first (λ b. b == 10) text 0 inside in
    let whole : slice_split (λ b. b == 10) text ≡ line ∷ slice_split (λ b. b == 10) rest = cc in
    ap (λ first. first ∷ lines rest) is
    ∙ sym (parts_step line (slice_split (λ b. b == 10) rest) (omega (arith, length-slice_split (λ b. b == 10) rest)))
    ∙ ap lines_of_parts (sym whole)

whole_step : (test : Bool) (x : ℕ) (text : List ℕ) → (x == 10) ≡ test → x ≢ 10 → slice_split (λ b. b == 10) text ≡ text ∷ []
    → (if test then [] ∷ slice_split (λ b. b == 10) text else onto_first x (slice_split (λ b. b == 10) text)) ≡ (x ∷ text) ∷ []
whole_step true x text is other whole = absurd (other (grind (arith, tests)))
whole_step false x text is other whole = ap (onto_first x) whole

split_whole : (text : List ℕ) → ((i : ℕ) → i < length text → get_or text i 0 ≢ 10) → slice_split (λ b. b == 10) text ≡ text ∷ []
split_whole [] never = refl
split_whole (x ∷ text) never =
    whole_step (x == 10) x text refl (never 0 (omega arith)) (split_whole text (λ i inside. never (suc i) (omega arith)))

one_step : (test : Bool) (text : List ℕ) → test ≡ false → text ∷ [] ≡ (if test then [] else text ∷ [])
one_step true text is = cc
one_step false text is = refl

-- a text without an LF is its one line, where it has a byte
pub line_whole : (text : List ℕ) → ((i : ℕ) → i < length text → get_or text i 0 ≢ 10) → (length text == 0) ≡ false → text ∷ [] ≡ lines text
line_whole text never some = one_step (length text == 0) text some ∙ ap lines_of_parts (sym (split_whole text never))

stripped_step : (test : Bool) (line : List ℕ) → test ≡ true → take (length line - 1) line ≡ (if test then take (length line - 1) line else line)
stripped_step true line is = refl
stripped_step false line is = cc

-- a line with a CR at its end loses it
pub cr_stripped : (line front : List ℕ) → line ≡ front ++ 13 ∷ [] → front ≡ strip_carriage_return line
cr_stripped line front is =
    let last : (slice_index line (length line - 1) == 13) ≡ true = rw is (grind (arith, common_steps)) in
    let less : front ≡ take (length line - 1) line = rw is (grind (arith, common_steps)) in
    less ∙ stripped_step (slice_index line (length line - 1) == 13) line last

ends_in_cr : (x : ℕ) (line : List ℕ) → get_or (x ∷ line) (length line) 0 ≡ 13 → x ∷ line ≡ take (length line) (x ∷ line) ++ 13 ∷ []
ends_in_cr x [] is = ap (λ b. b ∷ []) is
ends_in_cr x (y ∷ line) is = ap (λ rest. x ∷ rest) (ends_in_cr y line is)

kept_step : (test : Bool) (x : ℕ) (line : List ℕ) → (get_or (x ∷ line) (length line) 0 == 13) ≡ test → ((front : List ℕ) → x ∷ line ≢ front ++ 13 ∷ [])
    → x ∷ line ≡ (if test then take (length line) (x ∷ line) else x ∷ line)
kept_step true x line is never =
    absurd (never (take (length line) (x ∷ line)) (ends_in_cr x line (grind (arith, tests))))
kept_step false x line is never = refl

-- another line stays
pub no_cr : (line : List ℕ) → ((front : List ℕ) → line ≢ front ++ 13 ∷ []) → line ≡ strip_carriage_return line
no_cr [] never = refl
no_cr (x ∷ line) never =
    let last : length line ≡ length (x ∷ line) - 1 = omega arith in
    kept_step (get_or (x ∷ line) (length line) 0 == 13) x line refl never
    ∙ ap (λ n. if get_or (x ∷ line) n 0 == 13 then take n (x ∷ line) else x ∷ line) last

-- ---- at a byte that a search finds

not_true : (test : Bool) → (test ≡ true → ⊥) → test ≡ false
not_true true untold = absurd (untold refl)
not_true false untold = refl

-- where the first such byte stands
pub byte_place : (byte : ℕ) (text : List ℕ) (i : ℕ) → IsFirstByte (is_byte byte) text (Some i) → position_or_len (λ b. b == byte) text ≡ i
byte_place byte text i found =
    position_or_len_is (λ b. b == byte) text i 0 (omega (arith, found.0.high)) (λ k before. not_true (get_or text k 0 == byte) (found.0.before k (omega arith) before)) (λ inside. found.1)

no_place : (byte : ℕ) (text : List ℕ) → IsFirstByte (is_byte byte) text None → position_or_len (λ b. b == byte) text ≡ length text
no_place byte text none =
    position_or_len_is (λ b. b == byte) text (length text) 0 (omega arith) (λ k inside. not_true (get_or text k 0 == byte) (none k (omega arith) inside)) (λ inside. absurd (omega arith))

byte_low : (byte : ℕ) (text : List ℕ) (i : ℕ) → byte < 128 → IsFirstByte (is_byte byte) text (Some i) → get_or text i 0 < 128
byte_low byte text i low found = let is : get_or text i 0 ≡ byte = eqb-true (get_or text i 0) byte found.1 in omega (arith, is, low)

-- a text may be cut before an ASCII byte that is found, and behind it
pub before_byte : (byte : ℕ) (text : List ℕ) (i : ℕ) → byte < 128 → IsFirstByte (is_byte byte) text (Some i) → IsCharBoundary text i
before_byte byte text i low found = IsCharBoundary-before_ascii text i (omega (arith, found.0.high)) (byte_low byte text i low found)

pub behind_byte : (byte : ℕ) (text : List ℕ) (i : ℕ) → byte < 128 → IsUtf8 text → IsFirstByte (is_byte byte) text (Some i) → IsCharBoundary text (i + 1)
behind_byte byte text i low utf8 found = IsCharBoundary-after_ascii text i utf8 (omega (arith, found.0.high)) (byte_low byte text i low found)

-- the cut is what stands before the byte and behind it
pub cut_by_byte : (byte : ℕ) (text front rest : List ℕ) (i : ℕ) → IsFirstByte (is_byte byte) text (Some i) → front ≡ take i text → rest ≡ drop (i + 1) text
    → Some (front, rest) ≡ cut_at byte text
cut_by_byte byte text front rest i found before behind =
    let place = byte_place byte text i found in
    let p : front ≡ before_first (λ b. b == byte) text = before ∙ ap (λ k. take k text) (sym place) in
    let q : rest ≡ after_first (λ b. b == byte) text = behind ∙ ap (λ k. drop (k + 1) text) (sym place) in
    long_step (nat_lt (position_or_len (λ b. b == byte) text) (length text)) (before_first (λ b. b == byte) text, after_first (λ b. b == byte) text) (front, rest)
    (lt-ltb (position_or_len (λ b. b == byte) text) (length text) (omega (arith, place, found.0.high))) (λ j. (p j, q j))

pub uncut_by_byte : (byte : ℕ) (text : List ℕ) → IsFirstByte (is_byte byte) text None → None ≡ cut_at byte text
uncut_by_byte byte text none =
    short_step (nat_lt (position_or_len (λ b. b == byte) text) (length text)) (before_first (λ b. b == byte) text, after_first (λ b. b == byte) text)
    (le-ltb (position_or_len (λ b. b == byte) text) (length text) (omega (arith, no_place byte text none)))

-- a text with an LF has the line before it, and then the lines behind it
pub line_by_byte : (text line rest stripped : List ℕ) (i : ℕ) → IsFirstByte (is_byte 10) text (Some i) → line ≡ take i text → rest ≡ drop (i + 1) text
    → stripped ≡ strip_carriage_return line → stripped ∷ lines rest ≡ lines text
line_by_byte text line rest stripped i found front behind is =
    let place = byte_place 10 text i found in
    line_first text line rest stripped (omega (arith, place, found.0.high)) (front ∙ ap (λ k. take k text) (sym place)) (behind ∙ ap (λ k. drop (k + 1) text) (sym place)) is

-- a text in which no LF is found has none at any place
pub no_lf : (text : List ℕ) → IsFirstByte (is_byte 10) text None → (i : ℕ) → i < length text → get_or text i 0 ≢ 10
no_lf text none i inside = λ is. none i (omega arith) inside (eq-eqb (get_or text i 0) 10 is)
