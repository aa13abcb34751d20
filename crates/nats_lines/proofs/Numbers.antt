-- What `parse` reads is the grammar's number.
use Rattle.std.proofs.Common.{◌≡◌, ℕ, suc, ◌+◌, ◌-◌, ◌*◌, ◌^◌, ◌<◌, ◌≤◌, Bool, true, false, List, [], ◌∷◌, length, drop, drop-cons, get_or, Some, None, Result, Ok, Err, refl, ap, sym, subst, ◌∙◌, arith, rules, tests, not}
use Rattle.std.specs.Prelude.{◌==◌, ◌&&◌, nat_lt, if◌then◌else◌}
use Rattle.std.specs.Char.{digit_value}
use Rattle.std.specs.Result.{result_ok, OkIff}
use Rattle.std.specs.Str.{all_ascii_digits}
use Rattle.std.specs.Str.Parse.{ParsesUnsigned, AllDigits, digits_value, digits_value_after, without_leading_plus, IsNumeral}
use Rattle.std.proofs.lemmas.Str.Parse.{IsNumeralModel, numerals_by_value, tells_all_ascii_digits}
use Rattle.std.proofs.lemmas.Bool.{lt-ltb, ltb-true}
use Rattle.std.proofs.lemmas.List.{drop_all}
use Rattle.nats_lines.specs.Operations.{number_of}

own : IsNumeralModel (λ ds. all_ascii_digits ds ≡ true) (digits_value 10)
own = numerals_by_value _ tells_all_ascii_digits

-- the grammar's test of a number
abbrev is_number : List ℕ → Bool
is_number digits = not (length digits == 0) && all_ascii_digits digits && nat_lt (digits_value 10 digits) (2 ^ 64)

abbrev IsNumber : List ℕ → Type 0
IsNumber digits = IsNumeral 10 digits × (digits_value 10 digits < 2 ^ 64)

all_three : (a b c : Bool) → a ≡ true → b ≡ true → c ≡ true → (a && b && c) ≡ true
all_three a b c p q r = rw (p, q, r) refl

each_of_three : (a b c : Bool) → (a && b && c) ≡ true → (a ≡ true) × (b ≡ true) × (c ≡ true)
each_of_three true true true h = (refl, refl, refl)
each_of_three true true false h = cc
each_of_three true false c h = cc
each_of_three false b c h = cc

is_number_holds : (digits : List ℕ) → IsNumber digits → is_number digits ≡ true
is_number_holds digits h =
    let some : 0 < length digits = h.0.0 in
    all_three _ _ _ (search (rules, tests)) (own.from digits h.0.1) (lt-ltb _ _ h.1)

is_number_tells : (digits : List ℕ) → is_number digits ≡ true → IsNumber digits
is_number_tells digits h =
    let parts = each_of_three (not (length digits == 0)) (all_ascii_digits digits) (nat_lt (digits_value 10 digits) (2 ^ 64)) h in
    let some : 0 < length digits = grind (arith, tests, parts.0) in
    ((some, own.to digits parts.1), ltb-true _ _ parts.2)

refused : (digits : List ℕ) (test : Bool) → is_number digits ≡ test → ¬ (IsNumber digits)
    → None ≡ (if test then Some (digits_value 10 digits) else None)
refused digits true is never = absurd (never (is_number_tells digits is))
refused digits false is never = refl

read_by : {E : Type 0} (digits : List ℕ) (r : Result ℕ E) → OkIff r (IsNumber digits) (digits_value 10 digits)
    → result_ok r ≡ (if is_number digits then Some (digits_value 10 digits) else None)
read_by digits (Ok x) iff = rw (is_number_holds digits iff.0) (ap Some iff.1)
read_by digits (Err e) iff = refused digits (is_number digits) refl iff

-- `parse` reads the grammar's number, and fails where it has none
pub number_read : {E : Type 0} (text : List ℕ) (r : Result ℕ E) → ParsesUnsigned 64 10 text r → result_ok r ≡ number_of text
number_read text r iff = read_by (without_leading_plus text) r iff

-- ---- digit by digit

-- the digits behind a place go on with the number of those before it, which are digits
abbrev pub GoesOn : List ℕ → ℕ → ℕ → Type 0
GoesOn text i n = (AllDigits 10 (drop i text) → AllDigits 10 text) × (digits_value_after 10 n (drop i text) ≡ digits_value 10 text)

digit_is : (byte : ℕ) → 48 ≤ byte → byte < 58 → digit_value byte ≡ byte - 48
digit_is byte low high = grind (arith, tests)

-- one digit more
pub goes_on : (text : List ℕ) (i n byte : ℕ) → i < length text → byte ≡ get_or text i 0 → 48 ≤ byte → byte < 58 → GoesOn text i n
    → GoesOn text (i + 1) (n * 10 + (byte - 48))
goes_on text i n byte inside is low high h =
    let digit = digit_is byte low high in
    let one : suc i ≡ i + 1 = omega arith in
    let next : drop i text ≡ byte ∷ drop (i + 1) text =
    drop-cons text i 0 inside ∙ ap (λ b. b ∷ drop (suc i) text) (sym is) ∙ ap (λ k. byte ∷ drop k text) one in
    let small : digit_value byte < 10 = omega (arith, digit) in (
      λ rest. h.0 (subst (AllDigits 10) (sym next) (small, rest)),
      ap (λ d. digits_value_after 10 (n * 10 + d) (drop (i + 1) text)) (sym digit) ∙ ap (digits_value_after 10 n) (sym next) ∙ h.1,
    )

no_plus : (text : List ℕ) → AllDigits 10 text → 0 < length text → without_leading_plus text ≡ text
no_plus [] digits some = absurd (omega arith)
no_plus (c ∷ text) digits some = grind (arith, tests)

number_of_digits : (text : List ℕ) (n : ℕ) → 0 < length text → AllDigits 10 text → digits_value 10 text ≡ n → n < 2 ^ 64
    → number_of text ≡ Some n
number_of_digits text n some digits value fits =
    let is : is_number text ≡ true = is_number_holds text ((some, digits), omega (arith, value, fits)) in
    rw (no_plus text digits some, is, value) refl

-- behind the last digit the number is told
pub number_at_end : (text : List ℕ) (i n : ℕ) → 0 < length text → length text ≤ i → n < 2 ^ 64 → GoesOn text i n → number_of text ≡ Some n
number_at_end text i n some over fits h =
    let none = drop_all i text over in
    number_of_digits text n some (h.0 (subst (AllDigits 10) (sym none) tt)) (sym h.1 ∙ ap (digits_value_after 10 n) none) fits
