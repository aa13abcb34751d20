-- Lines that are written piece by piece.
use Rattle.std.proofs.Common.{◌≡◌, ℕ, zero, suc, ◌<◌, ◌^◌, Bool, true, false, not, List, [], ◌∷◌, ◌++◌, length, get_or, Option, Some, None, refl, ap, ◌∙◌, arith, tests, lit<, option_map}
use Rattle.std.specs.Prelude.{◌==◌, ◌&&◌, ◌||◌, nat_lt, nat_le, if◌then◌else◌}
use Rattle.std.specs.List.{list_all, onto_first}
use Rattle.std.specs.Fmt.{decimal}
use Rattle.std.specs.Char.{is_ascii_digit}
use Rattle.std.specs.Str.{is_utf8, IsUtf8, IsAscii, all_ascii_digits}
use Rattle.std.specs.Str.Parse.{digits_value}
use Rattle.std.proofs.lemmas.Str.{IsUtf8-from_is_utf8, is_utf8-from_IsUtf8, IsUtf8-append, IsUtf8-from_ascii}
use Rattle.std.proofs.lemmas.Str.Parse.{IsNumeralModel, numerals_by_value, tells_all_ascii_digits}
use Rattle.std.proofs.lemmas.Fmt.{digits_decimal, digits_value-decimal, decimal_nonempty, first_decimal, decimal-digits_value, IsAscii-decimal}
use Rattle.std.proofs.lemmas.Str.Ascii.{IsAscii-nil}
use Rattle.std.proofs.lemmas.Bool.{lt-ltb}
use Rattle.nats_names.specs.Names.{is_separator, is_publishable}
use Rattle.nats_lines.specs.Operations.{Cut, onto_line, cut_line}
use Rattle.nats_client_text.specs.Pieces.{pieces_of, begins_number, plain_number, word_of}
use Rattle.nats_client_text.specs.Grammar.{line_of_word, line_of}
use Rattle.nats_client_text.specs.Law.{IsName}
use Rattle.nats_client_text.proofs.Lines.{line_of_utf8}

-- no byte is a space or a CR
abbrev Clear : List ℕ → Type 0
Clear [] = Unit {0}
Clear (b ∷ bytes) = ((b == 32) ≡ false) × ((b == 13) ≡ false) × Clear bytes

none_of : (a b c d : Bool) → (a || b || c || d) ≡ false → (a ≡ false) × (c ≡ false)
none_of false b false d is = (refl, refl)
none_of true b c d is = cc
none_of false true true d is = cc
none_of false false true d is = cc

both : (a b : Bool) → (a && b) ≡ true → (a ≡ true) × (b ≡ true)
both true true is = (refl, refl)
both true false is = cc
both false b is = cc

off : (a : Bool) → not a ≡ true → a ≡ false
off true is = cc
off false is = refl

clear : (bytes : List ℕ) → list_all (λ b. not (is_separator b)) bytes ≡ true → Clear bytes
clear [] is = tt
clear (b ∷ bytes) is =
    let parts = both (not (is_separator b)) (list_all (λ b. not (is_separator b)) bytes) is in
    let none = none_of (b == 32) (b == 9) (b == 13) (b == 10) (off (is_separator b) parts.0) in
    (none.0, none.1, clear bytes parts.1)

pub name_clear : (text : List ℕ) → is_publishable text ≡ true → Clear text
name_clear text is = clear text (both (not (length text == 0)) (list_all (λ b. not (is_separator b)) text) is).1

onto_step : (test : Bool) (x : ℕ) (first : List ℕ) (later parts : List (List ℕ)) → test ≡ false → parts ≡ first ∷ later
    → (if test then [] ∷ parts else onto_first x parts) ≡ (x ∷ first) ∷ later
onto_step true x first later parts is same = cc
onto_step false x first later parts is same = ap (onto_first x) same

split_at : (bytes rest : List ℕ) → Clear bytes → pieces_of (bytes ++ 32 ∷ rest) ≡ bytes ∷ pieces_of rest
split_at [] rest is = refl
split_at (b ∷ bytes) rest is = onto_step (b == 32) b bytes (pieces_of rest) (pieces_of (bytes ++ 32 ∷ rest)) is.0 (split_at bytes rest is.2)

split_none : (bytes : List ℕ) → Clear bytes → pieces_of bytes ≡ bytes ∷ []
split_none [] is = refl
split_none (b ∷ bytes) is = onto_step (b == 32) b bytes [] (pieces_of bytes) is.0 (split_none bytes is.2)

-- pieces with one space between
abbrev pub spaced : List ℕ → List (List ℕ) → List ℕ
spaced first [] = first
spaced first (piece ∷ pieces) = first ++ 32 ∷ spaced piece pieces

abbrev pub AreNames : List (List ℕ) → Type 0
AreNames [] = Unit {0}
AreNames (piece ∷ pieces) = IsName piece × AreNames pieces

spaced_pieces : (first : List ℕ) (pieces : List (List ℕ)) → IsName first → AreNames pieces → pieces_of (spaced first pieces) ≡ first ∷ pieces
spaced_pieces first [] is are = split_none first (name_clear first is.1)
spaced_pieces first (piece ∷ pieces) is are =
    split_at first (spaced piece pieces) (name_clear first is.1) ∙ ap (λ more. first ∷ more) (spaced_pieces piece pieces are.0 are.1)

-- each byte is ASCII
abbrev pub AreSmall : List ℕ → Type 0
AreSmall [] = Unit {0}
AreSmall (b ∷ bytes) = (b < 128) × AreSmall bytes

small_ascii : (bytes : List ℕ) → AreSmall bytes → IsAscii bytes
small_ascii [] are i = IsAscii-nil i
small_ascii (b ∷ bytes) are zero = are.0
small_ascii (b ∷ bytes) are (suc i) = small_ascii bytes are.1 i

pub small_utf8 : (bytes : List ℕ) → AreSmall bytes → is_utf8 bytes ≡ true
small_utf8 bytes are = is_utf8-from_IsUtf8 bytes (IsUtf8-from_ascii bytes (small_ascii bytes are))

space_utf8 : IsUtf8 (32 ∷ [])
space_utf8 = IsUtf8-from_ascii (32 ∷ []) (small_ascii (32 ∷ []) (lit< tt, tt))

spaced_utf8 : (first : List ℕ) (pieces : List (List ℕ)) → IsName first → AreNames pieces → IsUtf8 (spaced first pieces)
spaced_utf8 first [] is are = IsUtf8-from_is_utf8 first is.0
spaced_utf8 first (piece ∷ pieces) is are =
    IsUtf8-append first (32 ∷ spaced piece pieces) (IsUtf8-from_is_utf8 first is.0)
    (IsUtf8-append (32 ∷ []) (spaced piece pieces) space_utf8 (spaced_utf8 piece pieces are.0 are.1))

all_names : (pieces : List (List ℕ)) → AreNames pieces → list_all is_publishable pieces ≡ true
all_names [] are = refl
all_names (piece ∷ pieces) are = rw (are.0.1) (all_names pieces are.1)

-- what a line of names says
pub line_spaced : (first : List ℕ) (pieces : List (List ℕ)) → IsName first → AreNames pieces
    → line_of (spaced first pieces) ≡ line_of_word (word_of first) pieces
line_spaced first pieces is are =
    line_of_utf8 (spaced first pieces) (spaced first pieces) refl (spaced_utf8 first pieces is are)
    ∙ rw (spaced_pieces first pieces is are, all_names (first ∷ pieces) (is, are)) refl

cut_step : (test other : Bool) (a : ℕ) (more : List ℕ) (inner : Option Cut) (cut : Cut) → test ≡ false → inner ≡ Some cut
    → (if test && other then Some (record { line = []; rest = more }) else option_map (onto_line a) inner) ≡ Some (onto_line a cut)
cut_step true other a more inner cut is same = cc
cut_step false other a more inner cut is same = ap (option_map (onto_line a)) same

cut_later : (a : ℕ) (text : List ℕ) (cut : Cut) → (a == 13) ≡ false → cut_line text ≡ Some cut → cut_line (a ∷ text) ≡ Some (onto_line a cut)
cut_later a [] cut is later = cc
cut_later a (b ∷ more) cut is later = cut_step (a == 13) (b == 10) a more (cut_line (b ∷ more)) cut is later

-- no byte is a CR
abbrev pub NoReturn : List ℕ → Type 0
NoReturn [] = Unit {0}
NoReturn (b ∷ bytes) = ((b == 13) ≡ false) × NoReturn bytes

-- a line without a CR is cut at its CR LF
pub cut_clean : (line rest : List ℕ) → NoReturn line → cut_line (line ++ 13 ∷ 10 ∷ rest) ≡ Some (record { line = line; rest = rest })
cut_clean [] rest is = refl
cut_clean (b ∷ line) rest is = cut_later b (line ++ 13 ∷ 10 ∷ rest) (record { line = line; rest = rest }) is.0 (cut_clean line rest is.1)

pub no_return_append : (xs ys : List ℕ) → NoReturn xs → NoReturn ys → NoReturn (xs ++ ys)
no_return_append [] ys is are = are
no_return_append (x ∷ xs) ys is are = (is.0, no_return_append xs ys is.1 are)

clear_no_return : (bytes : List ℕ) → Clear bytes → NoReturn bytes
clear_no_return [] is = tt
clear_no_return (b ∷ bytes) is = (is.1, clear_no_return bytes is.2)

pub spaced_clean : (first : List ℕ) (pieces : List (List ℕ)) → IsName first → AreNames pieces → NoReturn (spaced first pieces)
spaced_clean first [] is are = clear_no_return first (name_clear first is.1)
spaced_clean first (piece ∷ pieces) is are =
    no_return_append first (32 ∷ spaced piece pieces) (clear_no_return first (name_clear first is.1)) (refl, spaced_clean piece pieces are.0 are.1)

-- ---- numbers

own : IsNumeralModel (λ ds. all_ascii_digits ds ≡ true) (digits_value 10)
own = numerals_by_value _ tells_all_ascii_digits

digit_clear : (c : ℕ) → is_ascii_digit c ≡ true → not (is_separator c) ≡ true
digit_clear c is = grind (arith, tests)

digits_clear : (digits : List ℕ) → all_ascii_digits digits ≡ true → list_all (λ b. not (is_separator b)) digits ≡ true
digits_clear [] is = refl
digits_clear (c ∷ digits) is =
    let parts = both (is_ascii_digit c) (all_ascii_digits digits) is in
    rw (digit_clear c parts.0) (digits_clear digits parts.1)

nonempty : (text : List ℕ) → 0 < length text → not (length text == 0) ≡ true
nonempty [] some = absurd (omega (arith, some))
nonempty (b ∷ text) some = grind (arith, tests)

-- a number is written as a name
pub number_name : (n : ℕ) → n < 2 ^ 64 → IsName (decimal n)
number_name n small =
    let digits : all_ascii_digits (decimal n) ≡ true = digits_decimal own n small in (
      is_utf8-from_IsUtf8 (decimal n) (IsUtf8-from_ascii (decimal n) (IsAscii-decimal n small)),
      rw (nonempty (decimal n) (decimal_nonempty n small)) (digits_clear (decimal n) digits),
    )

first_digit : (digit : ℕ) (digits : List ℕ) → 48 < digit → is_ascii_digit digit ≡ true
    → (nat_le 49 digit && nat_le digit 57 || digit == 48 && length digits == 0) ≡ true
first_digit digit digits big is = grind (arith, tests)

begins_by : (text : List ℕ) → 48 < get_or text 0 0 → all_ascii_digits text ≡ true → begins_number text ≡ true
begins_by [] big is = absurd (omega (arith, big))
begins_by (digit ∷ digits) big is = first_digit digit digits big (both (is_ascii_digit digit) (all_ascii_digits digits) is).0

begins_decimal : (n : ℕ) → n < 2 ^ 64 → begins_number (decimal n) ≡ true
begins_decimal zero small =
    let e : decimal 0 ≡ 48 ∷ [] = decimal-digits_value own (48 ∷ []) refl (lit< tt) (λ h. refl) (lit< tt) in
    rw e refl
begins_decimal (suc n) small = begins_by (decimal (suc n)) (first_decimal (suc n) (omega arith) small) (digits_decimal own (suc n) small)

number_step : (a b c : Bool) (n m : ℕ) → a ≡ true → b ≡ true → c ≡ true → n ≡ m → (if a && b && c then Some n else None) ≡ Some m
number_step true true true n m p q r same = ap Some same
number_step false b c n m p q r same = cc
number_step true false c n m p q r same = cc
number_step true true false n m p q r same = cc

-- and read as the number
pub plain_number_decimal : (n : ℕ) → n < 2 ^ 64 → plain_number (decimal n) ≡ Some n
plain_number_decimal n small =
    let value : digits_value 10 (decimal n) ≡ n = digits_value-decimal own n small in
    number_step (begins_number (decimal n)) (all_ascii_digits (decimal n)) (nat_lt (digits_value 10 (decimal n)) (2 ^ 64)) (digits_value 10 (decimal n)) n
    (begins_decimal n small) (digits_decimal own n small) (lt-ltb _ _ (rw value small)) value
