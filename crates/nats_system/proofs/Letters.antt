-- A text of letters and digits with one more.
use Rattle.std.proofs.Common.{◌≡◌, refl, ◌∙◌, ap, inl, inr, ℕ, ◌<◌, arith, Bool, true, false, ◌&&◌, ◌||◌, nat_le, le-leb, List, [], ◌∷◌, ◌++◌}
use Rattle.std.proofs.lemmas.Bool.{false≢true}
use Rattle.std.specs.Char.{IsAsciiAlphanumeric}
use Rattle.std.specs.List.{list_all}
use Rattle.std.proofs.lemmas.List.Folds.{list_all-append}
use Rattle.nats_names.specs.Names.{is_letter_or_digit}

both : (a b : Bool) → a ≡ true → b ≡ true → (a && b) ≡ true
both true b is also = also
both false b is also = absurd (false≢true is)

first_of : (a b : Bool) → a ≡ true → (a || b) ≡ true
first_of true b is = refl
first_of false b is = absurd (false≢true is)

second_of : (a b : Bool) → b ≡ true → (a || b) ≡ true
second_of true b is = refl
second_of false b is = is

pub is_letter : (c : ℕ) → IsAsciiAlphanumeric c → is_letter_or_digit c ≡ true
is_letter c (inl (inl digit)) =
    first_of ((nat_le 48 c && nat_le c 57) || (nat_le 65 c && nat_le c 90)) (nat_le 97 c && nat_le c 122)
    (first_of (nat_le 48 c && nat_le c 57) (nat_le 65 c && nat_le c 90)
    (both (nat_le 48 c) (nat_le c 57) (le-leb 48 c (omega (arith, digit))) (le-leb c 57 (omega (arith, digit)))))
is_letter c (inl (inr capital)) =
    first_of ((nat_le 48 c && nat_le c 57) || (nat_le 65 c && nat_le c 90)) (nat_le 97 c && nat_le c 122)
    (second_of (nat_le 48 c && nat_le c 57) (nat_le 65 c && nat_le c 90)
    (both (nat_le 65 c) (nat_le c 90) (le-leb 65 c (omega (arith, capital)))
    (le-leb c 90 (omega (arith, capital)))))
is_letter c (inr small) =
    second_of ((nat_le 48 c && nat_le c 57) || (nat_le 65 c && nat_le c 90)) (nat_le 97 c && nat_le c 122)
    (both (nat_le 97 c) (nat_le c 122) (le-leb 97 c (omega (arith, small))) (le-leb c 122 (omega (arith, small))))

-- it is one byte
pub is_ascii : (c : ℕ) → IsAsciiAlphanumeric c → c < 128
is_ascii c (inl (inl digit)) = omega (arith, digit)
is_ascii c (inl (inr capital)) = omega (arith, capital)
is_ascii c (inr small) = omega (arith, small)

pub letters_more : (bytes more : List ℕ) (c : ℕ) → list_all is_letter_or_digit bytes ≡ true → IsAsciiAlphanumeric c
    → more ≡ c ∷ []
    → list_all is_letter_or_digit (bytes ++ more) ≡ true
letters_more bytes more c all letter is =
    ap (λ (m : List ℕ). list_all is_letter_or_digit (bytes ++ m)) is
    ∙ (list_all-append is_letter_or_digit bytes (c ∷ [])
    ∙ both (list_all is_letter_or_digit bytes) (is_letter_or_digit c && true) all
    (both (is_letter_or_digit c) true (is_letter c letter) refl))
