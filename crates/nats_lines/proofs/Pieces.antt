-- The pieces of a text, one after another, and the head that they make, whose words are no longer than the text.
use Rattle.memchr.specs.Find.{IsFirstByte, is_byte}
use Rattle.std.proofs.lemmas.Bool.{eq-eqb, eqb-true}
use Rattle.std.proofs.lemmas.List.Sums.{position_or_len_is}
use Rattle.std.proofs.Common.{◌≡◌, ◌≢◌, ℕ, suc, ◌+◌, ◌<◌, ◌≤◌, Bool, true, false, not, List, [], ◌∷◌, length, take, drop, length-take-le, get_or, Option, Some, None, refl, ap, sym, ◌∙◌, arith, tests}
use Rattle.std.specs.Prelude.{◌==◌, if◌then◌else◌}
use Rattle.std.specs.List.{filter, slice_split, onto_first, position_or_len, before_first, after_first}
use Rattle.std.proofs.lemmas.List.Splits.{slice_split_first}
use Rattle.std.specs.Str.{is_utf8, IsUtf8, IsCharBoundary}
use Rattle.std.proofs.lemmas.Str.{IsUtf8-from_is_utf8, is_utf8-from_IsUtf8, IsCharBoundary-after_ascii}
use Rattle.nats_lines.specs.Operations.{Head, number_of, pieces_of, head_with, head_of_pieces, head_of, length_or_0}

kept_step : (test : Bool) (piece : List ℕ) (more : List (List ℕ)) → test ≡ false → piece ∷ more ≡ (if not test then piece ∷ more else more)
kept_step true piece more is = cc
kept_step false piece more is = refl

-- where something stands before a text's first space it is the text's first piece, and the others stand behind
pub pieces_at_space : (text piece rest : List ℕ) → position_or_len (λ b. b == 32) text < length text
    → piece ≡ before_first (λ b. b == 32) text → rest ≡ after_first (λ b. b == 32) text → (length piece == 0) ≡ false
    → piece ∷ pieces_of rest ≡ pieces_of text
pieces_at_space text piece rest inside front behind some =
    let first = slice_split_first (λ b. b == 32) text 0 inside in
    let whole : slice_split (λ b. b == 32) text ≡ piece ∷ slice_split (λ b. b == 32) rest = cc in
    kept_step (length piece == 0) piece (pieces_of rest) some ∙ ap (filter (λ piece. not (length piece == 0))) (sym whole)

not_true : (test : Bool) → (test ≡ true → ⊥) → test ≡ false
not_true true untold = absurd (untold refl)
not_true false untold = refl

space_place : (text : List ℕ) (i : ℕ) → IsFirstByte (is_byte 32) text (Some i) → position_or_len (λ b. b == 32) text ≡ i
space_place text i found =
    position_or_len_is (λ b. b == 32) text i 0 (omega (arith, found.0.high)) (λ k before. not_true (get_or text k 0 == 32) (found.0.before k (omega arith) before)) (λ inside. found.1)

space_low : (text : List ℕ) (i : ℕ) → IsFirstByte (is_byte 32) text (Some i) → get_or text i 0 < 128
space_low text i found = let is : get_or text i 0 ≡ 32 = eqb-true (get_or text i 0) 32 found.1 in omega (arith, is)

-- a text may be cut behind its first space
pub past_space : (text : List ℕ) (i : ℕ) → IsUtf8 text → IsFirstByte (is_byte 32) text (Some i) → IsCharBoundary text (i + 1)
past_space text i utf8 found = IsCharBoundary-after_ascii text i utf8 (omega (arith, found.0.high)) (space_low text i found)

-- the bytes before a text's first space are its first piece, where there are some, and the others stand behind
pub pieces_by_byte : (text piece rest : List ℕ) (i : ℕ) → IsFirstByte (is_byte 32) text (Some i) → piece ≡ take i text → rest ≡ drop (i + 1) text
    → 0 < i → piece ∷ pieces_of rest ≡ pieces_of text
pieces_by_byte text piece rest i found front behind some =
    let place = space_place text i found in
    pieces_at_space text piece rest (omega (arith, place, found.0.high)) (front ∙ ap (λ k. take k text) (sym place)) (behind ∙ ap (λ k. drop (k + 1) text) (sym place))
    (let size : length piece ≡ i = ap length front ∙ length-take-le i text (omega (arith, found.0.high)) in grind (arith, tests))

-- a text that begins with a space has the pieces of what follows it
pub pieces_past_space : (text rest : List ℕ) → IsFirstByte (is_byte 32) text (Some 0) → rest ≡ drop 1 text → pieces_of rest ≡ pieces_of text
pieces_past_space [] rest found behind = absurd (omega (arith, found.0.high))
pieces_past_space (x ∷ text) rest found behind =
    let space : x ≡ 32 = grind (arith, tests) in
    ap pieces_of behind ∙ rw space refl

-- a text without a space has none at any place
pub no_space : (text : List ℕ) → IsFirstByte (is_byte 32) text None → (i : ℕ) → i < length text → get_or text i 0 ≢ 32
no_space text none i inside = λ is. none i (omega arith) inside (eq-eqb (get_or text i 0) 32 is)

whole_step : (test : Bool) (x : ℕ) (text : List ℕ) → (x == 32) ≡ test → x ≢ 32 → slice_split (λ b. b == 32) text ≡ text ∷ []
    → (if test then [] ∷ slice_split (λ b. b == 32) text else onto_first x (slice_split (λ b. b == 32) text)) ≡ (x ∷ text) ∷ []
whole_step true x text is other whole = absurd (other (grind (arith, tests)))
whole_step false x text is other whole = ap (onto_first x) whole

split_whole : (text : List ℕ) → ((i : ℕ) → i < length text → get_or text i 0 ≢ 32) → slice_split (λ b. b == 32) text ≡ text ∷ []
split_whole [] never = refl
split_whole (x ∷ text) never =
    whole_step (x == 32) x text refl (never 0 (omega arith)) (split_whole text (λ i inside. never (suc i) (omega arith)))

-- a text without a space is its one piece, where it has a byte
pub pieces_whole : (text : List ℕ) → ((i : ℕ) → i < length text → get_or text i 0 ≢ 32) → (length text == 0) ≡ false
    → text ∷ [] ≡ pieces_of text
pieces_whole text never some =
    kept_step (length text == 0) text [] some ∙ ap (filter (λ piece. not (length piece == 0))) (sym (split_whole text never))

-- the bytes of some texts
abbrev pub total : List (List ℕ) → ℕ
total [] = 0
total (text ∷ texts) = length text + total texts

total_onto : (x : ℕ) (texts : List (List ℕ)) → total (onto_first x texts) ≤ suc (total texts)
total_onto x [] = omega arith
total_onto x (text ∷ texts) = omega arith

split_step : (test : Bool) (x : ℕ) (texts : List (List ℕ)) (n : ℕ) → total texts ≤ n
    → total (if test then [] ∷ texts else onto_first x texts) ≤ suc n
split_step true x texts n h = omega arith
split_step false x texts n h = omega (arith, total_onto x texts)

total_split : (p : ℕ → Bool) (bytes : List ℕ) → total (slice_split p bytes) ≤ length bytes
total_split p [] = omega arith
total_split p (x ∷ bytes) = split_step (p x) x (slice_split p bytes) (length bytes) (total_split p bytes)

filter_step : (test : Bool) (text : List ℕ) (kept texts : List (List ℕ)) → total kept ≤ total texts
    → total (if test then text ∷ kept else kept) ≤ length text + total texts
filter_step true text kept texts h = omega arith
filter_step false text kept texts h = omega arith

total_filter : (p : List ℕ → Bool) (texts : List (List ℕ)) → total (filter p texts) ≤ total texts
total_filter p [] = omega arith
total_filter p (text ∷ texts) = filter_step (p text) text (filter p texts) texts (total_filter p texts)

pub with_short : (subject : List ℕ) (reply : Option (List ℕ)) (sid count : Option ℕ) (head : Head)
    → head_with subject reply sid count ≡ Some head → length head.subject + length_or_0 head.reply ≡ length subject + length_or_0 reply
with_short subject reply None count head is = cc
with_short subject reply (Some sid) None head is = cc
with_short subject reply (Some sid) (Some count) head is =
    let e : record { subject = subject; sid = sid; reply = reply; count = count } ≡ head = cc in
    sym (ap (λ (h : Head). length h.subject + length_or_0 h.reply) e)

pieces_short : (pieces : List (List ℕ)) (head : Head) → head_of_pieces pieces ≡ Some head
    → length head.subject + length_or_0 head.reply ≤ total pieces
pieces_short [] head is = cc
pieces_short (a ∷ []) head is = cc
pieces_short (a ∷ b ∷ []) head is = cc
pieces_short (a ∷ b ∷ c ∷ []) head is = omega (arith, with_short a None (number_of b) (number_of c) head is)
pieces_short (a ∷ b ∷ c ∷ d ∷ []) head is = omega (arith, with_short a (Some c) (number_of b) (number_of d) head is)
pieces_short (a ∷ b ∷ c ∷ d ∷ e ∷ more) head is = cc

head_short_by : (test : Bool) (text : List ℕ) (head : Head)
    → (if test then head_of_pieces (pieces_of text) else None) ≡ Some head
    → length head.subject + length_or_0 head.reply ≤ length text
head_short_by true text head is =
    omega (arith, pieces_short (pieces_of text) head is, total_filter (λ piece. not (length piece == 0)) (slice_split (λ b. b == 32) text), total_split (λ b. b == 32) text)
head_short_by false text head is = cc

-- the subject and the reply of a message are no longer than its line
pub head_short : (text : List ℕ) (head : Head) → head_of text ≡ Some head → length head.subject + length_or_0 head.reply ≤ length text
head_short text head is = head_short_by (is_utf8 text) text head is

utf8_step : (test : Bool) (text : List ℕ) → test ≡ true → (if test then head_of_pieces (pieces_of text) else None) ≡ head_of_pieces (pieces_of text)
utf8_step true text is = refl
utf8_step false text is = cc

-- what a line says where it is text
pub head_of_text : (text : List ℕ) → IsUtf8 text → head_of text ≡ head_of_pieces (pieces_of text)
head_of_text text utf8 = utf8_step (is_utf8 text) text (is_utf8-from_IsUtf8 text utf8)

other_step : (test : Bool) (text : List ℕ) → is_utf8 text ≡ test → ¬ (IsUtf8 text) → None ≡ (if test then head_of_pieces (pieces_of text) else None)
other_step true text is never = absurd (never (IsUtf8-from_is_utf8 text is))
other_step false text is never = refl

-- and where it is none
pub no_head : (text : List ℕ) → ¬ (IsUtf8 text) → None ≡ head_of text
no_head text never = other_step (is_utf8 text) text refl never
