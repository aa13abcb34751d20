-- The words of a text between white space, one after another.
use lib.Utf8.{low_scalar}
use Rattle.std.proofs.Common.{◌≡◌, ℕ, ◌+◌, ◌<◌, ◌≤◌, Bool, true, false, not, List, [], ◌∷◌, ◌++◌, length, map, Option, Some, None, IfSome, nat_lt, Bor, refl, ap, sym, ◌∙◌, arith, tests, ltb-false, append-nil, length-append}
use Rattle.std.specs.Prelude.{◌==◌, if◌then◌else◌}
use Rattle.std.specs.Char.{is_whitespace, is_not_whitespace, IsScalar, encode_utf8}
use Rattle.std.specs.List.{filter, slice_split, onto_first}
use Rattle.std.specs.Str.{IsUtf8, NonePass, NoCharPasses, EmptyOrStartsWithPassing, chars, all_scalars, encode_utf8_all}
use Rattle.std.specs.Str.Iter.{split_whitespace_rest, split_whitespace_steps}
use Rattle.std.specs.declared.str.SplitWhitespace.{SplitWhitespace}
use Rattle.std.proofs.lemmas.Str.{chars-nil, chars-append, chars_from_encodes, IsUtf8-encode, IsUtf8-from_is_utf8, is_utf8-from_IsUtf8, encodes-chars}
use Rattle.std.specs.Str.{is_utf8}
use Rattle.nats_lines.specs.Operations.{Head, HeaderHead, number_of, length_or_0, head_with, with_block_len, header_head_of_words, header_head_of, words_of}
use Rattle.nats_lines.specs.Heads.{words_from}
use Rattle.nats_lines.proofs.Pieces.{total, with_short}

-- the words of some characters, as characters
abbrev pub words_in : List ℕ → List (List ℕ)
words_in cs = filter (λ word. not (length word == 0)) (slice_split is_whitespace cs)

white_step : (test : Bool) (c : ℕ) (parts : List (List ℕ)) → test ≡ true
    → filter (λ word. not (length word == 0)) (if test then [] ∷ parts else onto_first c parts) ≡ filter (λ word. not (length word == 0)) parts
white_step true c parts is = refl
white_step false c parts is = cc

-- white space before the words is passed over
white_first : (c : ℕ) (cs : List ℕ) → is_whitespace c ≡ true → words_in (c ∷ cs) ≡ words_in cs
white_first c cs is = white_step (is_whitespace c) c (slice_split is_whitespace cs) is

is_white : (c : ℕ) → is_not_whitespace c ≡ false → is_whitespace c ≡ true
is_white c e = grind arith

gap_first : (gap cs : List ℕ) → NonePass is_not_whitespace gap → words_in (gap ++ cs) ≡ words_in cs
gap_first [] cs white = refl
gap_first (c ∷ gap) cs white = white_first c (gap ++ cs) (is_white c white.0) ∙ gap_first gap cs white.1

letter_step : (test : Bool) (c : ℕ) (parts others : List (List ℕ)) → test ≡ false → parts ≡ others
    → (if test then [] ∷ parts else onto_first c parts) ≡ onto_first c others
letter_step true c parts others is same = cc
letter_step false c parts others is same = ap (onto_first c) same

-- a word at the end is one part
split_end : (word : List ℕ) → NonePass is_whitespace word → slice_split is_whitespace word ≡ word ∷ []
split_end [] none = refl
split_end (c ∷ word) none =
    letter_step (is_whitespace c) c (slice_split is_whitespace word) (word ∷ []) none.0 (split_end word none.1)

cut_step : (test : Bool) (c : ℕ) (parts : List (List ℕ)) → test ≡ true
    → (if test then [] ∷ parts else onto_first c parts) ≡ [] ∷ parts
cut_step true c parts is = refl
cut_step false c parts is = cc

-- and so is one before white space
split_before : (word : List ℕ) (c : ℕ) (more : List ℕ) → NonePass is_whitespace word → is_whitespace c ≡ true
    → slice_split is_whitespace (word ++ c ∷ more) ≡ word ∷ slice_split is_whitespace more
split_before [] c more none white = cut_step (is_whitespace c) c (slice_split is_whitespace more) white
split_before (d ∷ word) c more none white =
    letter_step (is_whitespace d) d (slice_split is_whitespace (word ++ c ∷ more)) (word ∷ slice_split is_whitespace more) none.0 (split_before word c more none.1 white)

kept_step : (test : Bool) (word : List ℕ) (more : List (List ℕ)) → test ≡ false → (if not test then word ∷ more else more) ≡ word ∷ more
kept_step true word more is = cc
kept_step false word more is = refl

word_at_end : (word : List ℕ) → (length word == 0) ≡ false → NonePass is_whitespace word → words_in word ≡ word ∷ []
word_at_end word some none =
    ap (filter (λ word. not (length word == 0))) (split_end word none) ∙ kept_step (length word == 0) word [] some

word_before : (word : List ℕ) (c : ℕ) (more : List ℕ) → (length word == 0) ≡ false → NonePass is_whitespace word
    → is_whitespace c ≡ true → words_in (word ++ c ∷ more) ≡ word ∷ words_in (c ∷ more)
word_before word c more some none white =
    ap (filter (λ word. not (length word == 0))) (split_before word c more none white)
    ∙ kept_step (length word == 0) word (words_in more) some
    ∙ ap (λ (words : List (List ℕ)). word ∷ words) (sym (white_first c more white))

-- ---- the characters of a text in parts

white_scalars : (gap : List ℕ) → NonePass is_not_whitespace gap → all_scalars gap ≡ true
white_scalars [] white = refl
white_scalars (c ∷ gap) white =
    let is = is_white c white.0 in
    let low : c < 55296 = grind arith in
    rw (low_scalar c low) (white_scalars gap white.1)

white_text : (gap : List ℕ) → NoCharPasses is_not_whitespace gap → IsUtf8 gap
white_text gap none = (none.0, (white_scalars none.0 none.2, none.1))

one_char : (c : ℕ) → IsScalar c → chars (encode_utf8 c) ≡ c ∷ []
one_char c scalar = sym (chars_from_encodes (c ∷ []) (encode_utf8 c) (IsUtf8-encode c scalar) (append-nil (encode_utf8 c)))

rest_chars : (rest more : List ℕ) → EmptyOrStartsWithPassing is_whitespace rest more → 0 < length rest
    → (c : ℕ) × (is_whitespace c ≡ true) × (chars rest ≡ c ∷ chars more)
rest_chars rest more opens some =
    let p = opens some in (
      p.0,
      p.1,
      ap chars p.2 ∙ chars-append (encode_utf8 p.0) more (IsUtf8-encode p.0 p.3) ∙ ap (λ cs. cs ++ chars more) (one_char p.0 p.3),
    )

word_then : (word rest more : List ℕ) → (length word == 0) ≡ false → NonePass is_whitespace word → EmptyOrStartsWithPassing is_whitespace rest more
    → words_in (word ++ chars rest) ≡ word ∷ words_in (chars rest)
word_then word [] more some none opens =
    ap (λ cs. words_in (word ++ cs)) chars-nil ∙ ap words_in (append-nil word) ∙ word_at_end word some none
    ∙ ap (λ cs. word ∷ words_in cs) (sym chars-nil)
word_then word (b ∷ bs) more some none opens =
    let p = rest_chars (b ∷ bs) more opens (omega arith) in
    ap (λ cs. words_in (word ++ cs)) p.2 ∙ word_before word p.0 (chars more) some none p.1
    ∙ ap (λ cs. word ∷ words_in cs) (sym p.2)

some_chars : (cs word : List ℕ) → encode_utf8_all cs ≡ word → 0 < length word → (length cs == 0) ≡ false
some_chars [] word is some = absurd (omega (arith, ap length is))
some_chars (c ∷ cs) word is some = grind (arith, tests)

word_given : (text gap word rest more : List ℕ) → IsUtf8 word → text ≡ gap ++ (word ++ rest) → 0 < length word
    → NoCharPasses is_not_whitespace gap → NoCharPasses is_whitespace word → EmptyOrStartsWithPassing is_whitespace rest more
    → word ∷ words_of rest ≡ words_of text
word_given text gap word rest more utf8 is some white letters opens =
    let gap_is : chars gap ≡ white.0 = sym (chars_from_encodes white.0 gap (white_text gap white) white.1) in
    let word_is : chars word ≡ letters.0 = sym (chars_from_encodes letters.0 word utf8 letters.1) in
    let all : chars text ≡ white.0 ++ (letters.0 ++ chars rest) =
    ap chars is ∙ chars-append gap (word ++ rest) (white_text gap white) ∙ ap (λ cs. chars gap ++ cs) (chars-append word rest utf8)
    ∙ ap (λ cs. cs ++ (chars word ++ chars rest)) gap_is ∙ ap (λ cs. white.0 ++ (cs ++ chars rest)) word_is in
    sym (
    ap (λ cs. map encode_utf8_all (words_in cs)) all
    ∙ ap (map encode_utf8_all) (gap_first white.0 (letters.0 ++ chars rest) white.2 ∙ word_then letters.0 rest more (some_chars letters.0 word letters.1 some) letters.2 opens)
    ∙ ap (λ w. w ∷ words_of rest) letters.1
    )

none_given : (text : List ℕ) → NoCharPasses is_not_whitespace text → [] ≡ words_of text
none_given text white =
    let text_is : chars text ≡ white.0 = sym (chars_from_encodes white.0 text (white_text text white) white.1) in
    sym (ap (λ cs. map encode_utf8_all (words_in cs)) (text_is ∙ sym (append-nil white.0)) ∙ ap (map encode_utf8_all) (gap_first white.0 [] white.2))

-- what `next` takes off is the first word
pub word_by_step : (r : Option (Bor (List ℕ))) (old new : SplitWhitespace) → IfSome r (λ word. IsUtf8 word.now) → split_whitespace_steps old r new
    → words_from r (split_whitespace_rest new) ≡ words_of (split_whitespace_rest old)
word_by_step None old new utf8 steps = none_given (split_whitespace_rest old) steps.1
word_by_step (Some word) old new utf8 steps =
    word_given (split_whitespace_rest old) steps.0 word.now (split_whitespace_rest new) steps.5.0 utf8 steps.1 steps.2 steps.3 steps.4 steps.5.1

-- ---- lengths

onto_total : (c : ℕ) (parts : List (List ℕ))
    → total (map encode_utf8_all (onto_first c parts)) ≤ length (encode_utf8 c) + total (map encode_utf8_all parts)
onto_total c [] = omega (arith, ap length (append-nil (encode_utf8 c)))
onto_total c (part ∷ parts) = omega (arith, length-append (encode_utf8 c) (encode_utf8_all part))

split_step : (test : Bool) (c n : ℕ) (parts : List (List ℕ)) → total (map encode_utf8_all parts) ≤ n
    → total (map encode_utf8_all (if test then [] ∷ parts else onto_first c parts)) ≤ length (encode_utf8 c) + n
split_step true c n parts h = omega arith
split_step false c n parts h = omega (arith, onto_total c parts)

split_total : (cs : List ℕ) → total (map encode_utf8_all (slice_split is_whitespace cs)) ≤ length (encode_utf8_all cs)
split_total [] = omega arith
split_total (c ∷ cs) =
    omega (arith, split_step (is_whitespace c) c (length (encode_utf8_all cs)) (slice_split is_whitespace cs) (split_total cs), length-append (encode_utf8 c) (encode_utf8_all cs))

filter_step : (test : Bool) (word : List ℕ) (kept parts : List (List ℕ)) → total (map encode_utf8_all kept) ≤ total (map encode_utf8_all parts)
    → total (map encode_utf8_all (if test then word ∷ kept else kept)) ≤ length (encode_utf8_all word) + total (map encode_utf8_all parts)
filter_step true word kept parts h = omega arith
filter_step false word kept parts h = omega arith

filter_total : (p : List ℕ → Bool) (parts : List (List ℕ)) → total (map encode_utf8_all (filter p parts)) ≤ total (map encode_utf8_all parts)
filter_total p [] = omega arith
filter_total p (word ∷ parts) = filter_step (p word) word (filter p parts) parts (filter_total p parts)

words_total : (text : List ℕ) → IsUtf8 text → total (words_of text) ≤ length text
words_total text utf8 =
    omega (arith, filter_total (λ word. not (length word == 0)) (slice_split is_whitespace (chars text)), split_total (chars text), ap length (encodes-chars text utf8))

block_len_step : (test : Bool) (head : Head) (block_len : ℕ) (h : HeaderHead)
    → (if test then None else Some (record { head = head; block_len = block_len })) ≡ Some h → head ≡ h.head
block_len_step true head block_len h is = cc
block_len_step false head block_len h is =
    let e : record { head = head; block_len = block_len } ≡ h = cc in ap (λ (h : HeaderHead). h.head) e

block_len_short : (subject : List ℕ) (reply : Option (List ℕ)) (sid count block_len : Option ℕ) (found : Option Head) (h : HeaderHead)
    → head_with subject reply sid count ≡ found → with_block_len block_len found ≡ Some h
    → length h.head.subject + length_or_0 h.head.reply ≡ length subject + length_or_0 reply
block_len_short subject reply sid count None found h head is = cc
block_len_short subject reply sid count (Some block_len) None h head is = cc
block_len_short subject reply sid count (Some block_len) (Some found) h head is =
    let same : found ≡ h.head = block_len_step (nat_lt found.count block_len) found block_len h is in
    ap (λ (head : Head). length head.subject + length_or_0 head.reply) (sym same) ∙ with_short subject reply sid count found head

words_short : (words : List (List ℕ)) (h : HeaderHead) → header_head_of_words words ≡ Some h
    → length h.head.subject + length_or_0 h.head.reply ≤ total words
words_short [] h is = cc
words_short (a ∷ []) h is = cc
words_short (a ∷ b ∷ []) h is = cc
words_short (a ∷ b ∷ c ∷ []) h is = cc
words_short (a ∷ b ∷ c ∷ d ∷ []) h is =
    omega (arith, block_len_short a None (number_of b) (number_of d) (number_of c) (head_with a None (number_of b) (number_of d)) h refl is)
words_short (a ∷ b ∷ c ∷ d ∷ e ∷ []) h is =
    omega (arith, block_len_short a (Some c) (number_of b) (number_of e) (number_of d) (head_with a (Some c) (number_of b) (number_of e)) h refl is)
words_short (a ∷ b ∷ c ∷ d ∷ e ∷ f ∷ more) h is = cc

header_short_by : (test : Bool) (text : List ℕ) (h : HeaderHead) → is_utf8 text ≡ test
    → (if test then header_head_of_words (words_of text) else None) ≡ Some h
    → length h.head.subject + length_or_0 h.head.reply ≤ length text
header_short_by true text h utf8 is =
    omega (arith, words_short (words_of text) h is, words_total text (IsUtf8-from_is_utf8 text utf8))
header_short_by false text h utf8 is = cc

-- the subject and the reply of a message with headers are no longer than its line
pub header_short : (text : List ℕ) (h : HeaderHead) → header_head_of text ≡ Some h
    → length h.head.subject + length_or_0 h.head.reply ≤ length text
header_short text h is = header_short_by (is_utf8 text) text h refl is

utf8_step : (test : Bool) (text : List ℕ) → test ≡ true → (if test then header_head_of_words (words_of text) else None) ≡ header_head_of_words (words_of text)
utf8_step true text is = refl
utf8_step false text is = cc

-- what a line says where it is text
pub header_head_of_text : (text : List ℕ) → IsUtf8 text → header_head_of text ≡ header_head_of_words (words_of text)
header_head_of_text text utf8 = utf8_step (is_utf8 text) text (is_utf8-from_IsUtf8 text utf8)

other_step : (test : Bool) (text : List ℕ) → is_utf8 text ≡ test → ¬ (IsUtf8 text) → None ≡ (if test then header_head_of_words (words_of text) else None)
other_step true text is never = absurd (never (IsUtf8-from_is_utf8 text is))
other_step false text is never = refl

-- and where it is none
pub no_header_head : (text : List ℕ) → ¬ (IsUtf8 text) → None ≡ header_head_of text
no_header_head text never = other_step (is_utf8 text) text refl never

within_step : (test : Bool) (head : Head) (block_len : ℕ) (h : HeaderHead) → nat_lt head.count block_len ≡ test
    → (if test then None else Some (record { head = head; block_len = block_len })) ≡ Some h → h.block_len ≤ h.head.count
within_step true head block_len h test is = cc
within_step false head block_len h test is =
    let e : record { head = head; block_len = block_len } ≡ h = cc in
    let fits : block_len ≤ head.count = ltb-false head.count block_len test in
    omega (arith, ap (λ (h : HeaderHead). h.block_len) e, ap (λ (h : HeaderHead). h.head.count) e)

within_by : (block_len : Option ℕ) (head : Option Head) (h : HeaderHead) → with_block_len block_len head ≡ Some h → h.block_len ≤ h.head.count
within_by None head h is = cc
within_by (Some block_len) None h is = cc
within_by (Some block_len) (Some head) h is = within_step (nat_lt head.count block_len) head block_len h refl is

words_within : (words : List (List ℕ)) (h : HeaderHead) → header_head_of_words words ≡ Some h → h.block_len ≤ h.head.count
words_within [] h is = cc
words_within (a ∷ []) h is = cc
words_within (a ∷ b ∷ []) h is = cc
words_within (a ∷ b ∷ c ∷ []) h is = cc
words_within (a ∷ b ∷ c ∷ d ∷ []) h is = within_by (number_of c) (head_with a None (number_of b) (number_of d)) h is
words_within (a ∷ b ∷ c ∷ d ∷ e ∷ []) h is = within_by (number_of d) (head_with a (Some c) (number_of b) (number_of e)) h is
words_within (a ∷ b ∷ c ∷ d ∷ e ∷ f ∷ more) h is = cc

header_within_by : (test : Bool) (text : List ℕ) (h : HeaderHead) → (if test then header_head_of_words (words_of text) else None) ≡ Some h
    → h.block_len ≤ h.head.count
header_within_by true text h is = words_within (words_of text) h is
header_within_by false text h is = cc

-- the block of a message with headers is within what its line counts
pub header_within : (text : List ℕ) (h : HeaderHead) → header_head_of text ≡ Some h → h.block_len ≤ h.head.count
header_within text h is = header_within_by (is_utf8 text) text h is
