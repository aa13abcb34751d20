-- What `parse` reads of a text that begins as a number is the grammar's number.
use Rattle.std.proofs.Common.{◌≡◌, ℕ, ◌^◌, ◌<◌, ◌≢◌, Bool, true, false, List, [], ◌∷◌, length, get_or, Some, None, Result, Ok, Err, refl, ap, arith, tests}
use Rattle.std.specs.Prelude.{◌&&◌, nat_lt, if◌then◌else◌}
use Rattle.std.specs.Result.{result_ok, OkIff}
use Rattle.std.specs.Str.{all_ascii_digits}
use Rattle.std.specs.Str.Parse.{ParsesUnsigned, digits_value, without_leading_plus, IsNumeral}
use Rattle.std.proofs.lemmas.Str.Parse.{IsNumeralModel, numerals_by_value, tells_all_ascii_digits, without_leading_plus_none}
use Rattle.std.proofs.lemmas.Bool.{lt-ltb, ltb-true}
use Rattle.nats_client_text.specs.Pieces.{begins_number, plain_number}

own : IsNumeralModel (λ ds. all_ascii_digits ds ≡ true) (digits_value 10)
own = numerals_by_value _ tells_all_ascii_digits

-- the grammar's test of a number
abbrev is_number : List ℕ → Bool
is_number digits = begins_number digits && all_ascii_digits digits && nat_lt (digits_value 10 digits) (2 ^ 64)

abbrev IsNumber : List ℕ → Type 0
IsNumber digits = IsNumeral 10 digits × (digits_value 10 digits < 2 ^ 64)

all_three : (a b c : Bool) → a ≡ true → b ≡ true → c ≡ true → (a && b && c) ≡ true
all_three a b c p q r = rw (p, q, r) refl

each_of_three : (a b c : Bool) → (a && b && c) ≡ true → (a ≡ true) × (b ≡ true) × (c ≡ true)
each_of_three true true true h = (refl, refl, refl)
each_of_three true true false h = cc
each_of_three true false c h = cc
each_of_three false b c h = cc

-- it has a byte
has_byte : (digits : List ℕ) → begins_number digits ≡ true → 0 < length digits
has_byte [] is = cc
has_byte (digit ∷ digits) is = omega arith

-- its first is no plus
no_plus : (text : List ℕ) → begins_number text ≡ true → get_or text 0 0 ≢ 43
no_plus [] is plus = cc
no_plus (digit ∷ digits) is plus = grind (arith, tests)

is_number_holds : (digits : List ℕ) → begins_number digits ≡ true → IsNumber digits → is_number digits ≡ true
is_number_holds digits begins h = all_three _ _ _ begins (own.from digits h.0.1) (lt-ltb _ _ h.1)

is_number_tells : (digits : List ℕ) → is_number digits ≡ true → IsNumber digits
is_number_tells digits h =
    let parts = each_of_three (begins_number digits) (all_ascii_digits digits) (nat_lt (digits_value 10 digits) (2 ^ 64)) h in
    ((has_byte digits parts.0, own.to digits parts.1), ltb-true _ _ parts.2)

refused : (digits : List ℕ) (test : Bool) → is_number digits ≡ test → ¬ (IsNumber digits)
    → None ≡ (if test then Some (digits_value 10 digits) else None)
refused digits true is never = absurd (never (is_number_tells digits is))
refused digits false is never = refl

read_by : {E : Type 0} (digits : List ℕ) (r : Result ℕ E) → begins_number digits ≡ true → OkIff r (IsNumber digits) (digits_value 10 digits)
    → result_ok r ≡ (if is_number digits then Some (digits_value 10 digits) else None)
read_by digits (Ok x) begins iff = rw (is_number_holds digits begins iff.0) (ap Some iff.1)
read_by digits (Err e) begins iff = refused digits (is_number digits) refl iff

-- `parse` reads the grammar's number, and fails where it has none
pub number_read : {E : Type 0} (text : List ℕ) (r : Result ℕ E) → begins_number text ≡ true → ParsesUnsigned 64 10 text r
    → result_ok r ≡ plain_number text
number_read text r begins iff =
    let same : without_leading_plus text ≡ text = without_leading_plus_none text (no_plus text begins) in
    read_by text r begins (rw same at iff)

none_step : (begins digits small : Bool) (n : ℕ) → begins ≡ false → None ≡ (if begins && digits && small then Some n else None)
none_step true digits small n is = cc
none_step false digits small n is = refl

-- another text is none
pub no_number : (text : List ℕ) → begins_number text ≡ false → None ≡ plain_number text
no_number text is =
    none_step (begins_number text) (all_ascii_digits text) (nat_lt (digits_value 10 text) (2 ^ 64)) (digits_value 10 text) is
