-- A short name with a number behind it is a token.
use Rattle.std.specs.Fmt.{decimal}
use Rattle.std.specs.List.{list_all}
use Rattle.std.proofs.Common.{◌≡◌, ℕ, ◌+◌, ◌^◌, ◌≤◌, ◌<◌, ◌%◌, ◌/◌, Bool, true, false, not, ◌&&◌, ◌||◌, ◌==◌, nat_le, List, [], ◌∷◌, ◌++◌, length, refl, sym, ◌∙◌, ap, arith, lit<}
use Rattle.std.proofs.lemmas.Bool.{false≢true}
use Rattle.std.proofs.lemmas.Fmt.{decimal_by_steps, length-decimal-le}
use Rattle.std.proofs.lemmas.Grind.{common_steps}
use Rattle.std.proofs.lemmas.List.{length-append}
use Rattle.std.proofs.lemmas.List.Folds.{list_all-append}
use Rattle.std.proofs.lemmas.Bool.Decides.{nat_tests}
use Rattle.nats_names.specs.Names.{is_letter_or_digit, is_token}

both : (a b : Bool) → a ≡ true → b ≡ true → (a && b) ≡ true
both true b e f = f
both false b e f = absurd (false≢true e)

front_of : (a b : Bool) → (a && b) ≡ true → a ≡ true
front_of true b e = refl
front_of false b e = absurd (false≢true e)

back_of : (a b : Bool) → (a && b) ≡ true → b ≡ true
back_of true b e = e
back_of false b e = absurd (false≢true e)

digit_fits : (d : ℕ) → d < 10 → is_letter_or_digit (48 + d) ≡ true
digit_fits d less = grind (arith, nat_tests)

letters_with : (ds : List ℕ) (d : ℕ) → d < 10 → list_all is_letter_or_digit ds ≡ true
    → list_all is_letter_or_digit (ds ++ (48 + d) ∷ []) ≡ true
letters_with ds d less all =
    list_all-append is_letter_or_digit ds ((48 + d) ∷ [])
    ∙ both (list_all is_letter_or_digit ds) (list_all is_letter_or_digit ((48 + d) ∷ [])) all
    (both (is_letter_or_digit (48 + d)) true (digit_fits d less) refl)

digits_fit : (n : ℕ) → n < 2 ^ 64 → list_all is_letter_or_digit (decimal n) ≡ true
digits_fit =
    decimal_by_steps (λ n ds. list_all is_letter_or_digit ds ≡ true)
    (λ n less. letters_with [] n less refl)
    (λ n ds more all. letters_with ds (n % 10) (omega arith) all)

length_fits : (n : ℕ) → n < 2 ^ 64 → length (decimal n) ≤ 20
length_fits n less = length-decimal-le 20 n (lit< tt) (omega arith) less

pub token_fits : (name : List ℕ) (n : ℕ) → is_token name ≡ true → length name ≤ 40 → n < 2 ^ 64
    → is_token (name ++ decimal n) ≡ true
token_fits name n is short less =
    let whole = length-append name (decimal n) in
    let digits = length_fits n less in
    let sized = front_of (not (length name == 0) && nat_le (length name) 64) (list_all is_letter_or_digit name) is in
    let letters = back_of (not (length name == 0) && nat_le (length name) 64) (list_all is_letter_or_digit name) is in
    both (not (length (name ++ decimal n) == 0) && nat_le (length (name ++ decimal n)) 64)
    (list_all is_letter_or_digit (name ++ decimal n))
    (both (not (length (name ++ decimal n) == 0)) (nat_le (length (name ++ decimal n)) 64)
    (some_more (length name) (length (decimal n)) (length (name ++ decimal n))
    (front_of (not (length name == 0)) (nat_le (length name) 64) sized) whole)
    (at_most (length (name ++ decimal n)) (omega (arith, whole, digits))))
    (list_all-append is_letter_or_digit name (decimal n) ∙ both (list_all is_letter_or_digit name)
    (list_all is_letter_or_digit (decimal n)) letters (digits_fit n less))
  where
    at_most : (m : ℕ) → m ≤ 64 → nat_le m 64 ≡ true
    at_most m less = grind (arith, nat_tests)

    some_more : (m k l : ℕ) → not (m == 0) ≡ true → l ≡ m + k → not (l == 0) ≡ true
    some_more m k l some is = grind (arith, nat_tests)
