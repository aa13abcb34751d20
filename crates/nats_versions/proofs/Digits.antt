-- Where the digits at the front of a text end, and the number that they spell.
use Rattle.std.proofs.Common.{◌≡◌, ℕ, suc, ◌+◌, ◌<◌, ◌≤◌, ◌^◌, Bool, true, false, not, cond, ◌&&◌, ◌==◌, List, [], ◌∷◌, length, take, drop, Option, Some, None, Result, Ok, Err, inl, inr, refl, sym, ◌∙◌, ap, arith, rules}
use Rattle.std.specs.Prelude.{nat_lt, ℤ, pos}
use Rattle.std.specs.Char.{is_ascii_digit}
use Rattle.std.specs.List.{list_all, position, position_or_len}
use Rattle.std.specs.Result.{result_ok}
use Rattle.std.specs.Int.{w64}
use Rattle.std.specs.Str.{IsUtf8}
use Rattle.std.specs.Str.Parse.{ParsesSigned, digits_value}
use Rattle.std.proofs.lemmas.Bool.{false≢true, cases_lt, lt-ltb, le-ltb}
use Rattle.std.proofs.lemmas.Fmt.{IsAscii-from_digits}
use Rattle.std.proofs.lemmas.Str.{IsUtf8-from_ascii}
use Rattle.std.proofs.lemmas.Str.Parse.{IsDigitsTest, IsNumeralModel, numerals_by_value, parse_signed_digits}
use Rattle.nats_versions.specs.Versions.{is_other, digits_len, number}

abbrev at_or_none : {A : Type 0} → (A → Bool) → List A → ℕ → Option ℕ
at_or_none p xs n = cond (nat_lt n (length xs)) (Some n) None

within : {A : Type 0} (p : A → Bool) (xs : List A) → position_or_len p xs ≤ length xs
within p [] = omega arith
within p (x ∷ xs) = by (p x) (within p xs)
  where
    by : (b : Bool) → position_or_len p xs ≤ length xs → cond (not b) (1 + position_or_len p xs) 0 ≤ suc (length xs)
    by true less = omega arith
    by false less = omega (arith, less)

some_place : (n place len : ℕ) (b : Bool) → Some n ≡ cond b (Some place) None → n ≡ place
some_place n place len true is = cc
some_place n place len false is = absurd (let no : ⊥ = cc in no)

none_place : (place len : ℕ) (b : Bool) → nat_lt place len ≡ b → place ≤ len → None ≡ cond b (Some place) None → len ≡ place
none_place place len true is less none = absurd (let no : ⊥ = cc in no)
none_place place len false is less none = elim (cases_lt place len) [
  | inl lt ↦ absurd (false≢true (sym is ∙ lt-ltb place len lt))
  | inr le ↦ omega (arith, le, less)
]

pub other_at : (text : List ℕ) (n : ℕ) → Some n ≡ position is_other text → n ≡ digits_len text
other_at text n is = some_place n (digits_len text) (length text) (nat_lt (digits_len text) (length text)) is

pub no_other : (text : List ℕ) → None ≡ position is_other text → length text ≡ digits_len text
no_other text is =
    none_place (digits_len text) (length text) (nat_lt (digits_len text) (length text)) refl (within is_other text) is

one_more : (n : ℕ) → 1 + n ≡ suc n
one_more n = omega arith

both : (a b : Bool) → a ≡ true → b ≡ true → (a && b) ≡ true
both true true is are = refl
both true false is are = are
both false b is are = is

-- what stands before is digits
pub all_digits : (text : List ℕ) → list_all is_ascii_digit (take (digits_len text) text) ≡ true
all_digits [] = refl
all_digits (b ∷ text) = by (is_ascii_digit b) refl (all_digits text)
  where
    by : (test : Bool) → is_ascii_digit b ≡ test → list_all is_ascii_digit (take (digits_len text) text) ≡ true
        → list_all is_ascii_digit (take (cond (not (not test)) (1 + digits_len text) 0) (b ∷ text)) ≡ true
    by true is rest =
        ap (λ k. list_all is_ascii_digit (take k (b ∷ text))) (one_more (digits_len text))
        ∙ both (is_ascii_digit b) (list_all is_ascii_digit (take (digits_len text) text)) is rest
    by false is rest = refl

-- ---- the number that digits spell

digits_test : IsDigitsTest (λ ds. list_all is_ascii_digit ds ≡ true)
digits_test = search rules

own : IsNumeralModel (λ ds. list_all is_ascii_digit ds ≡ true) (digits_value 10)
own = numerals_by_value _ digits_test

pub digits_are_utf8 : (digits : List ℕ) → list_all is_ascii_digit digits ≡ true → IsUtf8 digits
digits_are_utf8 digits are = IsUtf8-from_ascii digits (IsAscii-from_digits digits (own.to digits are))

some_digits : (digits : List ℕ) → false ≡ (length digits == 0) → 0 < length digits
some_digits [] is = absurd (let no : ⊥ = cc in no)
some_digits (d ∷ ds) is = omega arith

pub number_gives : {E : Type 0} (digits : List ℕ) (r : Result ℤ E) → list_all is_ascii_digit digits ≡ true
    → false ≡ (length digits == 0) → ParsesSigned w64 10 digits r → result_ok r ≡ number digits
number_gives {E} digits (Ok n) are some h =
    let g = parse_signed_digits own {E = E} w64 digits (Ok n) h are in
    rw (lt-ltb _ _ g.0.1) (ap (λ (x : ℤ). Some x) g.1)
number_gives {E} digits (Err e) are some h =
    let g = parse_signed_digits own {E = E} w64 digits (Err e) h are in
    elim (cases_lt (digits_value 10 digits) (2 ^ 63)) [
      | inl lt ↦ absurd (g (some_digits digits some, lt))
      | inr le ↦ rw (le-ltb _ _ le) refl
    ]

pub ruleset cuts = (other_at, no_other, all_digits)
