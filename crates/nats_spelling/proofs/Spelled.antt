-- What fields spell.
use Rattle.std.proofs.lemmas.Bool.{cases_lt, lt-ltb, le-ltb}
use Rattle.std.proofs.lemmas.Fmt.{IsAscii-from_digits}
use Rattle.std.proofs.lemmas.Grind.{flat_map-append}
use Rattle.std.proofs.Common.{inl, inr, ◌≡◌, ℕ, zero, suc, ◌+◌, ◌<◌, ◌≤◌, ◌^◌, Bool, true, false, eqb, List, [], ◌∷◌, ◌++◌, length, take, drop, drop-cons, take-add, get_or, append-nil, Option, Some, None, Result, Ok, Err, refl, sym, ap, ◌∙◌, append_assoc, arith, rules}
use Rattle.std.specs.Prelude.{◌&&◌, ◌/◌, ◌%◌, not, if◌then◌else◌}
use Rattle.std.specs.Option.{option_map}
use Rattle.std.specs.List.{flat_map, list_all}
use Rattle.std.specs.Char.{is_ascii_digit}
use Rattle.std.specs.Str.{IsUtf8, is_utf8}
use Rattle.std.specs.Result.{result_ok}
use Rattle.std.specs.Str.Parse.{ParsesUnsigned, digits_value}
use Rattle.std.proofs.lemmas.Str.Parse.{IsDigitsTest, IsNumeralModel, numerals_by_value, parse_digits}
use Rattle.std.proofs.lemmas.Str.{IsUtf8-from_ascii, is_utf8-from_IsUtf8, IsUtf8-from_is_utf8}
use Rattle.memchr.specs.Find.{Nowhere, Passes}
use Rattle.nats_spelling.specs.Spelling.{is_plain, is_odd, hex_digit, letter, spelled, utf8_text, has_leading_zero, is_numeral, field_number}

-- what is spelled letter by letter
pub spelled_letters : (bytes : List ℕ) → eqb (length bytes) 0 ≡ false → spelled bytes ≡ flat_map letter bytes
spelled_letters [] some = absurd cc
spelled_letters (b ∷ bytes) some = refl

-- ---- letters

abbrev pub onto_front : List ℕ → Option (List ℕ) → Option (List ℕ)
onto_front front rest = option_map (λ bytes. front ++ bytes) rest

pub onto_front_more : (front : List ℕ) (b : ℕ) (rest : Option (List ℕ)) → onto_front front (option_map (λ bytes. b ∷ bytes) rest) ≡ onto_front (front ++ b ∷ []) rest
onto_front_more front b None = refl
onto_front_more front b (Some bytes) = ap (λ (x : List ℕ). Some x) (sym (append_assoc front (b ∷ []) bytes))

-- ---- texts

is_false : (b : Bool) → (b ≡ true → ⊥) → b ≡ false
is_false true h = absurd (h refl)
is_false false h = refl

pub utf8_is : (bytes : List ℕ) → IsUtf8 bytes → utf8_text bytes ≡ Some bytes
utf8_is bytes h = rw (is_utf8-from_IsUtf8 bytes h) refl

abbrev none : Option (List ℕ)
none = None

pub utf8_is_none : (bytes : List ℕ) → (IsUtf8 bytes → ⊥) → none ≡ utf8_text bytes
utf8_is_none bytes h = rw (is_false (is_utf8 bytes) (λ e. h (IsUtf8-from_is_utf8 bytes e))) refl

-- ---- numbers

digits_test : IsDigitsTest (λ ds. list_all is_ascii_digit ds ≡ true)
digits_test = search rules

own : IsNumeralModel (λ ds. list_all is_ascii_digit ds ≡ true) (digits_value 10)
own = numerals_by_value _ digits_test

and_left : (a b : Bool) → (a && b) ≡ true → a ≡ true
and_left true b e = refl
and_left false b e = absurd cc

and_right : (a b : Bool) → (a && b) ≡ true → b ≡ true
and_right true b e = e
and_right false b e = absurd cc

digits_are : (field : List ℕ) → is_numeral field ≡ true → list_all is_ascii_digit field ≡ true
digits_are field e = and_right (not (eqb (length field) 0) && not (has_leading_zero field)) (list_all is_ascii_digit field) e

some_digits : (field : List ℕ) → is_numeral field ≡ true → 0 < length field
some_digits [] e = absurd cc
some_digits (d ∷ ds) e = omega arith

pub numeral_is_utf8 : (field : List ℕ) → is_numeral field ≡ true → IsUtf8 field
numeral_is_utf8 field e = IsUtf8-from_ascii field (IsAscii-from_digits field (own.to field (digits_are field e)))

-- what `parse` reads of a numeral is its number
pub number_gives : {E : Type 0} (field : List ℕ) (r : Result ℕ E) → is_numeral field ≡ true → ParsesUnsigned 64 10 field r → result_ok r ≡ field_number field
number_gives {E} field (Ok n) numeral h =
    let g = parse_digits own {E = E} 64 field (Ok n) h (digits_are field numeral) in
    rw (numeral, lt-ltb _ _ g.0.1) (ap (λ (x : ℕ). Some x) g.1)
number_gives {E} field (Err e) numeral h =
    let g = parse_digits own {E = E} 64 field (Err e) h (digits_are field numeral) in
    elim (cases_lt (digits_value 10 field) (2 ^ 64)) [
      | inl lt ↦ absurd (g (some_digits field numeral, lt))
      | inr le ↦ rw (numeral, le-ltb _ _ le) refl
    ]

-- ---- runs

plain_step : (test : Bool) (b : ℕ) (rest : List ℕ) → (not test ≡ true → ⊥)
    → (if test then b ∷ [] else 37 ∷ hex_digit (b / 16) ∷ hex_digit (b % 16) ∷ []) ++ rest ≡ b ∷ rest
plain_step true b rest never = refl
plain_step false b rest never = absurd (never refl)

-- plain bytes are their own letters
pub plain_letters : (n : ℕ) (bytes : List ℕ) → n ≤ length bytes → Nowhere (Passes is_odd bytes) 0 n → flat_map letter (take n bytes) ≡ take n bytes
plain_letters zero bytes within never = refl
plain_letters (suc n) [] within never = absurd (omega arith)
plain_letters (suc n) (b ∷ bytes) within never =
    ap (λ (rest : List ℕ). letter b ++ rest) (plain_letters n bytes (omega arith) (λ k low high. never (suc k) (omega arith) (omega arith)))
    ∙ plain_step (is_plain b) b (take n bytes) (never 0 (omega arith) (omega arith))

-- and the byte behind them
pub run_letters : (n : ℕ) (bytes start out new : List ℕ) → n < length bytes → Nowhere (Passes is_odd bytes) 0 n
    → out ≡ start ++ take n bytes → new ≡ out ++ letter (get_or bytes n 0) → new ≡ start ++ flat_map letter (take (n + 1) bytes)
run_letters n bytes start out new within never runs last =
    let one : take 1 (drop n bytes) ≡ get_or bytes n 0 ∷ [] = ap (take 1) (drop-cons bytes n 0 within) in
    let whole : flat_map letter (take (n + 1) bytes) ≡ take n bytes ++ (letter (get_or bytes n 0) ++ []) =
    ap (flat_map letter) (take-add n 1 bytes ∙ ap (λ (l : List ℕ). take n bytes ++ l) one)
    ∙ flat_map-append letter (take n bytes) (get_or bytes n 0 ∷ [])
    ∙ ap (λ (l : List ℕ). l ++ (letter (get_or bytes n 0) ++ [])) (plain_letters n bytes (omega arith) never) in
    last ∙ ap (λ (l : List ℕ). l ++ letter (get_or bytes n 0)) runs ∙ append_assoc start (take n bytes) (letter (get_or bytes n 0))
    ∙ ap (λ (l : List ℕ). start ++ (take n bytes ++ l)) (sym (append-nil (letter (get_or bytes n 0))))
    ∙ ap (λ (l : List ℕ). start ++ l) (sym whole)

-- what is spelled goes on behind what is spelled so far
pub letters_more : (at n : ℕ) (bytes shown start out new : List ℕ) → shown ≡ drop at bytes → out ≡ start ++ flat_map letter (take at bytes)
    → new ≡ out ++ flat_map letter (take n shown) → new ≡ start ++ flat_map letter (take (at + n) bytes)
letters_more at n bytes shown start out new is before more =
    let whole : flat_map letter (take (at + n) bytes) ≡ flat_map letter (take at bytes) ++ flat_map letter (take n (drop at bytes)) =
    ap (flat_map letter) (take-add at n bytes) ∙ flat_map-append letter (take at bytes) (take n (drop at bytes)) in
    more ∙ ap (λ (l : List ℕ). out ++ flat_map letter (take n l)) is ∙ ap (λ (l : List ℕ). l ++ flat_map letter (take n (drop at bytes))) before
    ∙ append_assoc start (flat_map letter (take at bytes)) (flat_map letter (take n (drop at bytes))) ∙ ap (λ (l : List ℕ). start ++ l) (sym whole)
