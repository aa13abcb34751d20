-- Lines that are told word by word: their cut, their pieces, their words, their numbers.
use Rattle.std.proofs.Common.{◌≡◌, ℕ, zero, suc, ◌+◌, ◌<◌, ◌≢◌, ◌^◌, Bool, true, false, not, List, [], ◌∷◌, ◌++◌, length, get_or, map, Option, Some, None, refl, ap, sym, ◌∙◌, arith, tests, lit<, append_assoc, length-append, option_map}
use Rattle.std.specs.Prelude.{◌==◌, ◌&&◌, ◌||◌, nat_lt, if◌then◌else◌}
use Rattle.std.specs.List.{list_all, list_any, filter, slice_split, onto_first}
use Rattle.std.specs.Char.{is_ascii_digit, is_whitespace}
use Rattle.std.specs.Fmt.{decimal}
use Rattle.std.specs.Str.{is_utf8, IsUtf8, IsAscii, all_ascii_digits, chars, encode_utf8_all}
use Rattle.std.specs.Str.Parse.{digits_value, without_leading_plus}
use Rattle.std.proofs.lemmas.Str.{IsUtf8-from_is_utf8, is_utf8-from_IsUtf8, IsUtf8-append, IsUtf8-from_ascii, chars-append, chars-nil, encodes-chars}
use Rattle.std.proofs.lemmas.Str.Parse.{IsNumeralModel, numerals_by_value, tells_all_ascii_digits}
use Rattle.std.proofs.lemmas.Fmt.{digits_decimal, digits_value-decimal, decimal_nonempty, IsAscii-decimal}
use Rattle.std.proofs.lemmas.Str.Ascii.{IsAscii-nil}
use Rattle.std.proofs.lemmas.Bool.{lt-ltb, ltb-true}
use Rattle.nats_names.specs.Names.{is_separator, is_publishable}
use Rattle.nats_broker_text.specs.Commands.{holds_white}
use Rattle.nats_lines.specs.Operations.{Cut, onto_line, cut_line, pieces_of, words_of, number_of}
use Rattle.nats_server_text.specs.Law.{IsWord}

pub if_true : {A : Type 0} (test : Bool) (a b : A) → test ≡ true → (if test then a else b) ≡ a
if_true true a b is = refl
if_true false a b is = cc

pub if_false : {A : Type 0} (test : Bool) (a b : A) → test ≡ false → (if test then a else b) ≡ b
if_false true a b is = cc
if_false false a b is = refl

pub both : (a b : Bool) → (a && b) ≡ true → (a ≡ true) × (b ≡ true)
both true true is = (refl, refl)
both true false is = cc
both false b is = cc

-- ---- the cut of a line

-- no byte is a CR
abbrev pub NoReturn : List ℕ → Type 0
NoReturn [] = Unit {0}
NoReturn (b ∷ bytes) = ((b == 13) ≡ false) × NoReturn bytes

cut_step : (test other : Bool) (a : ℕ) (more : List ℕ) (inner : Option Cut) (cut : Cut) → test ≡ false → inner ≡ Some cut
    → (if test && other then Some (record { line = []; rest = more }) else option_map (onto_line a) inner) ≡ Some (onto_line a cut)
cut_step true other a more inner cut is same = cc
cut_step false other a more inner cut is same = ap (option_map (onto_line a)) same

cut_later : (a : ℕ) (text : List ℕ) (cut : Cut) → (a == 13) ≡ false → cut_line text ≡ Some cut → cut_line (a ∷ text) ≡ Some (onto_line a cut)
cut_later a [] cut is later = cc
cut_later a (b ∷ more) cut is later = cut_step (a == 13) (b == 10) a more (cut_line (b ∷ more)) cut is later

-- a line without a CR is cut at its CR LF
pub cut_clean : (line rest : List ℕ) → NoReturn line → cut_line (line ++ 13 ∷ 10 ∷ rest) ≡ Some (record { line = line; rest = rest })
cut_clean [] rest is = refl
cut_clean (b ∷ line) rest is = cut_later b (line ++ 13 ∷ 10 ∷ rest) (record { line = line; rest = rest }) is.0 (cut_clean line rest is.1)

pub no_return_append : (xs ys : List ℕ) → NoReturn xs → NoReturn ys → NoReturn (xs ++ ys)
no_return_append [] ys is are = are
no_return_append (x ∷ xs) ys is are = (is.0, no_return_append xs ys is.1 are)

-- ---- words between single spaces

-- words with one space between
abbrev pub spaced : List ℕ → List (List ℕ) → List ℕ
spaced first [] = first
spaced first (word ∷ words) = first ++ 32 ∷ spaced word words

abbrev pub AreWords : List (List ℕ) → Type 0
AreWords [] = Unit {0}
AreWords (word ∷ words) = IsWord word × AreWords words

none_of : (a b c d : Bool) → (a || b || c || d) ≡ false → (a ≡ false) × (c ≡ false)
none_of false b false d is = (refl, refl)
none_of true b c d is = cc
none_of false true true d is = cc
none_of false false true d is = cc

off : (a : Bool) → not a ≡ true → a ≡ false
off true is = cc
off false is = refl

-- no byte is a space or a CR
abbrev Clear : List ℕ → Type 0
Clear [] = Unit {0}
Clear (b ∷ bytes) = ((b == 32) ≡ false) × ((b == 13) ≡ false) × Clear bytes

clear : (bytes : List ℕ) → list_all (λ b. not (is_separator b)) bytes ≡ true → Clear bytes
clear [] is = tt
clear (b ∷ bytes) is =
    let parts = both (not (is_separator b)) (list_all (λ b. not (is_separator b)) bytes) is in
    let none = none_of (b == 32) (b == 9) (b == 13) (b == 10) (off (is_separator b) parts.0) in
    (none.0, none.1, clear bytes parts.1)

word_clear : (text : List ℕ) → is_publishable text ≡ true → Clear text
word_clear text is = clear text (both (not (length text == 0)) (list_all (λ b. not (is_separator b)) text) is).1

word_some : (text : List ℕ) → is_publishable text ≡ true → not (length text == 0) ≡ true
word_some text is = (both (not (length text == 0)) (list_all (λ b. not (is_separator b)) text) is).0

clear_no_return : (bytes : List ℕ) → Clear bytes → NoReturn bytes
clear_no_return [] is = tt
clear_no_return (b ∷ bytes) is = (is.1, clear_no_return bytes is.2)

pub spaced_clean : (first : List ℕ) (words : List (List ℕ)) → IsWord first → AreWords words → NoReturn (spaced first words)
spaced_clean first [] is are = clear_no_return first (word_clear first is.1)
spaced_clean first (word ∷ words) is are =
    no_return_append first (32 ∷ spaced word words) (clear_no_return first (word_clear first is.1)) (refl, spaced_clean word words are.0 are.1)

-- each byte is ASCII
abbrev pub AreSmall : List ℕ → Type 0
AreSmall [] = Unit {0}
AreSmall (b ∷ bytes) = (b < 128) × AreSmall bytes

small_ascii : (bytes : List ℕ) → AreSmall bytes → IsAscii bytes
small_ascii [] are i = IsAscii-nil i
small_ascii (b ∷ bytes) are zero = are.0
small_ascii (b ∷ bytes) are (suc i) = small_ascii bytes are.1 i

pub small_utf8 : (bytes : List ℕ) → AreSmall bytes → IsUtf8 bytes
small_utf8 bytes are = IsUtf8-from_ascii bytes (small_ascii bytes are)

-- the same by a test
pub all_small : (bytes : List ℕ) → list_all (λ b. nat_lt b 128) bytes ≡ true → AreSmall bytes
all_small [] are = tt
all_small (b ∷ bytes) are =
    let parts = both (nat_lt b 128) (list_all (λ b. nat_lt b 128) bytes) are in
    (ltb-true b 128 parts.0, all_small bytes parts.1)

pub space_utf8 : IsUtf8 (32 ∷ [])
space_utf8 = small_utf8 (32 ∷ []) (lit< tt, tt)

pub spaced_utf8 : (first : List ℕ) (words : List (List ℕ)) → IsWord first → AreWords words → IsUtf8 (spaced first words)
spaced_utf8 first [] is are = IsUtf8-from_is_utf8 first is.0
spaced_utf8 first (word ∷ words) is are =
    IsUtf8-append first (32 ∷ spaced word words) (IsUtf8-from_is_utf8 first is.0)
    (IsUtf8-append (32 ∷ []) (spaced word words) space_utf8 (spaced_utf8 word words are.0 are.1))

-- ---- the pieces between spaces

onto_step : (test : Bool) (x : ℕ) (first : List ℕ) (later parts : List (List ℕ)) → test ≡ false → parts ≡ first ∷ later
    → (if test then [] ∷ parts else onto_first x parts) ≡ (x ∷ first) ∷ later
onto_step true x first later parts is same = cc
onto_step false x first later parts is same = ap (onto_first x) same

abbrev parts_of : List ℕ → List (List ℕ)
parts_of text = slice_split (λ b. b == 32) text

split_at : (bytes rest : List ℕ) → Clear bytes → parts_of (bytes ++ 32 ∷ rest) ≡ bytes ∷ parts_of rest
split_at [] rest is = refl
split_at (b ∷ bytes) rest is = onto_step (b == 32) b bytes (parts_of rest) (parts_of (bytes ++ 32 ∷ rest)) is.0 (split_at bytes rest is.2)

split_none : (bytes : List ℕ) → Clear bytes → parts_of bytes ≡ bytes ∷ []
split_none [] is = refl
split_none (b ∷ bytes) is = onto_step (b == 32) b bytes [] (parts_of bytes) is.0 (split_none bytes is.2)

abbrev kept : List (List ℕ) → List (List ℕ)
kept words = filter (λ word. not (length word == 0)) words

kept_word : (word : List ℕ) (words : List (List ℕ)) → not (length word == 0) ≡ true → kept (word ∷ words) ≡ word ∷ kept words
kept_word word words is = if_true (not (length word == 0)) (word ∷ kept words) (kept words) is

pub spaced_pieces : (first : List ℕ) (words : List (List ℕ)) → IsWord first → AreWords words → pieces_of (spaced first words) ≡ first ∷ words
spaced_pieces first [] is are = ap kept (split_none first (word_clear first is.1)) ∙ kept_word first [] (word_some first is.1)
spaced_pieces first (word ∷ words) is are =
    ap kept (split_at first (spaced word words) (word_clear first is.1))
    ∙ kept_word first (parts_of (spaced word words)) (word_some first is.1)
    ∙ ap (λ more. first ∷ more) (spaced_pieces word words are.0 are.1)

-- ---- the words between white space

abbrev split_white : List ℕ → List (List ℕ)
split_white cs = slice_split is_whitespace cs

any_step : (a b : Bool) → (a || b) ≡ false → (a ≡ false) × (b ≡ false)
any_step false b is = (refl, is)
any_step true b is = cc

white_at : (cs more : List ℕ) → list_any is_whitespace cs ≡ false → split_white (cs ++ 32 ∷ more) ≡ cs ∷ split_white more
white_at [] more is = refl
white_at (c ∷ cs) more is =
    let parts = any_step (is_whitespace c) (list_any is_whitespace cs) is in
    onto_step (is_whitespace c) c cs (split_white more) (split_white (cs ++ 32 ∷ more)) parts.0 (white_at cs more parts.1)

white_none : (cs : List ℕ) → list_any is_whitespace cs ≡ false → split_white cs ≡ cs ∷ []
white_none [] is = refl
white_none (c ∷ cs) is =
    let parts = any_step (is_whitespace c) (list_any is_whitespace cs) is in
    onto_step (is_whitespace c) c cs [] (split_white cs) parts.0 (white_none cs parts.1)

space_chars : chars (32 ∷ []) ≡ 32 ∷ []
unfolding chars
space_chars = refl

pub chars_space : (first rest : List ℕ) → IsUtf8 first → chars (first ++ 32 ∷ rest) ≡ chars first ++ 32 ∷ chars rest
chars_space first rest utf8 =
    chars-append first (32 ∷ rest) utf8
    ∙ ap (λ cs. chars first ++ cs) (chars-append (32 ∷ []) rest space_utf8)
    ∙ ap (λ cs. chars first ++ (cs ++ chars rest)) space_chars

-- the characters of a text that has a byte are some
some_by : (cs text : List ℕ) → encode_utf8_all cs ≡ text → not (length text == 0) ≡ true → not (length cs == 0) ≡ true
some_by [] [] is some = some
some_by [] (b ∷ text) is some = cc
some_by (c ∷ cs) text is some = grind (arith, tests)

word_chars : (word : List ℕ) → IsWord word → not (length (chars word) == 0) ≡ true
word_chars word is = some_by (chars word) word (encodes-chars word (IsUtf8-from_is_utf8 word is.0)) (word_some word is.1)

word_back : (word : List ℕ) → IsWord word → encode_utf8_all (chars word) ≡ word
word_back word is = encodes-chars word (IsUtf8-from_is_utf8 word is.0)

pub spaced_words : (first : List ℕ) (words : List (List ℕ)) → IsWord first → AreWords words → words_of (spaced first words) ≡ first ∷ words
spaced_words first [] is are =
    ap (λ parts. map encode_utf8_all (kept parts)) (white_none (chars first) is.2)
    ∙ ap (map encode_utf8_all) (kept_word (chars first) [] (word_chars first is))
    ∙ ap (λ (word : List ℕ). word ∷ []) (word_back first is)
spaced_words first (word ∷ words) is are =
    ap (λ cs. map encode_utf8_all (kept (split_white cs))) (chars_space first (spaced word words) (IsUtf8-from_is_utf8 first is.0))
    ∙ ap (λ parts. map encode_utf8_all (kept parts)) (white_at (chars first) (chars (spaced word words)) is.2)
    ∙ ap (map encode_utf8_all) (kept_word (chars first) (split_white (chars (spaced word words))) (word_chars first is))
    ∙ ap (λ (bytes : List ℕ). bytes ∷ words_of (spaced word words)) (word_back first is)
    ∙ ap (λ more. first ∷ more) (spaced_words word words are.0 are.1)

-- ---- numbers

own : IsNumeralModel (λ ds. all_ascii_digits ds ≡ true) (digits_value 10)
own = numerals_by_value _ tells_all_ascii_digits

digit_clear : (c : ℕ) → is_ascii_digit c ≡ true → not (is_separator c) ≡ true
digit_clear c is = grind (arith, tests)

digits_clear : (digits : List ℕ) → all_ascii_digits digits ≡ true → list_all (λ b. not (is_separator b)) digits ≡ true
digits_clear [] is = refl
digits_clear (c ∷ digits) is =
    let parts = both (is_ascii_digit c) (all_ascii_digits digits) is in
    rw (digit_clear c parts.0) (digits_clear digits parts.1)

digit_byte : (c : ℕ) → is_ascii_digit c ≡ true → (c < 128) × (is_whitespace c ≡ false)
digit_byte c is = (grind (arith, tests), grind (arith, tests))

one_char : (c : ℕ) → c < 128 → chars (c ∷ []) ≡ c ∷ []
unfolding chars
one_char c low = rw (lt-ltb c 128 low) refl

pub char_first : (c : ℕ) (rest : List ℕ) → c < 128 → chars (c ∷ rest) ≡ c ∷ chars rest
char_first c rest low =
    chars-append (c ∷ []) rest (small_utf8 (c ∷ []) (low, tt)) ∙ ap (λ cs. cs ++ chars rest) (one_char c low)

digits_white : (digits : List ℕ) → all_ascii_digits digits ≡ true → holds_white digits ≡ false
digits_white [] is = ap (list_any is_whitespace) chars-nil
digits_white (c ∷ digits) is =
    let parts = both (is_ascii_digit c) (all_ascii_digits digits) is in
    let byte = digit_byte c parts.0 in
    ap (list_any is_whitespace) (char_first c digits byte.0) ∙ rw (byte.1) (digits_white digits parts.1)

nonempty : (text : List ℕ) → 0 < length text → not (length text == 0) ≡ true
nonempty [] some = absurd (omega (arith, some))
nonempty (b ∷ text) some = grind (arith, tests)

-- a number is told as a word
pub number_word : (n : ℕ) → n < 2 ^ 64 → IsWord (decimal n)
number_word n small =
    let digits : all_ascii_digits (decimal n) ≡ true = digits_decimal own n small in (
      is_utf8-from_IsUtf8 (decimal n) (IsUtf8-from_ascii (decimal n) (IsAscii-decimal n small)),
      rw (nonempty (decimal n) (decimal_nonempty n small)) (digits_clear (decimal n) digits),
      digits_white (decimal n) digits,
    )

no_plus : (text : List ℕ) → all_ascii_digits text ≡ true → without_leading_plus text ≡ text
no_plus [] is = refl
no_plus (c ∷ text) is = let parts = both (is_ascii_digit c) (all_ascii_digits text) is in grind (arith, tests)

number_step : (a b c : Bool) (n m : ℕ) → a ≡ true → b ≡ true → c ≡ true → n ≡ m → (if a && b && c then Some n else None) ≡ Some m
number_step true true true n m p q r same = ap Some same
number_step false b c n m p q r same = cc
number_step true false c n m p q r same = cc
number_step true true false n m p q r same = cc

digits_number : (digits text : List ℕ) (n : ℕ) → digits ≡ text → all_ascii_digits text ≡ true → 0 < length text → digits_value 10 text ≡ n → n < 2 ^ 64
    → (if not (length digits == 0) && all_ascii_digits digits && nat_lt (digits_value 10 digits) (2 ^ 64) then Some (digits_value 10 digits) else None) ≡ Some n
digits_number digits text n same is some value small =
    rw same (number_step (not (length text == 0)) (all_ascii_digits text) (nat_lt (digits_value 10 text) (2 ^ 64)) (digits_value 10 text) n
    (nonempty text some) is (lt-ltb _ _ (rw value small)) value)

-- and read as the number
pub number_decimal : (n : ℕ) → n < 2 ^ 64 → number_of (decimal n) ≡ Some n
number_decimal n small =
    let digits : all_ascii_digits (decimal n) ≡ true = digits_decimal own n small in
    digits_number (without_leading_plus (decimal n)) (decimal n) n (no_plus (decimal n) digits) digits (decimal_nonempty n small) (digits_value-decimal own n small) small
