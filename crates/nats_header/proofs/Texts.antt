-- Which texts are values of headers.
use Rattle.std.proofs.Common.{◌≡◌, ℕ, zero, suc, ◌+◌, ◌/◌, ◌%◌, ◌==◌, ◌<◌, ◌≤◌, Bool, true, false, not, cond, nat_lt, List, [], ◌∷◌, Option, Some, None, length, slice_index_or, refl, sym, ap, ◌∙◌, arith, is_some, ℤ, pos, negsuc}
use Rattle.std.proofs.lemmas.Bool.Decides.{nat_tests}
use Rattle.std.proofs.lemmas.Bool.{false≢true}
use Rattle.std.proofs.lemmas.List.{get_or_default}
use Rattle.std.proofs.lemmas.List.Sums.{list_all-from_AllPass}
use Rattle.std.proofs.lemmas.List.Folds.{list_all_at}
use Rattle.std.specs.Fmt.{digit_glyph, digits_onto, digits, decimal, signed_decimal}
use Rattle.memchr.specs.Find.{IsFirstByte, is_byte2}
use Rattle.nats_header.specs.Names.{ends_line, is_header_value}

not_from_no : (b : Bool) → (b ≡ true → ⊥) → not b ≡ true
not_from_no true never = absurd (never refl)
not_from_no false _ = refl

no_end_at : (xs : List ℕ) (k d : ℕ) → k < length xs → (ends_line (slice_index_or xs k 0) ≡ true → ⊥) → not (ends_line (slice_index_or xs k d)) ≡ true
no_end_at xs k d l never = not_from_no _ (λ e. never (ap ends_line (get_or_default xs k 0 d l) ∙ e))

found : (text : List ℕ) (r : Option ℕ) → IsFirstByte (is_byte2 13 10) text r → is_some r ≡ not (is_header_value text)
found text None h =
    sym (ap not (list_all-from_AllPass (λ b. not (ends_line b)) text (λ k d l. no_end_at text k d l (h k (omega arith) l))))
found text (Some k) h =
    sym (ap not (list_all_at (λ b. not (ends_line b)) text k 0 h.0.high (ap not h.1)))

not_both : (a b c : Bool) → a ≡ not b → a ≡ not c → b ≡ c
not_both a true true p q = refl
not_both a false false p q = refl
not_both a true false p q = absurd (false≢true (sym p ∙ q))
not_both a false true p q = absurd (false≢true (sym q ∙ p))

-- a search for CR and LF finds none exactly in a value
pub none_found : (text : List ℕ) (r : Option ℕ) (b : Bool) → IsFirstByte (is_byte2 13 10) text r → is_some r ≡ not b → b ≡ is_header_value text
none_found text r b h e = not_both (is_some r) b (is_header_value text) e (found text r h)

no_end : (m : ℕ) → 48 ≤ m → not (ends_line m) ≡ true
no_end m h = grind (arith, nat_tests)

no_end_of : (b : Bool) (m n : ℕ) → 48 ≤ m → 48 ≤ n → not (ends_line (cond b m n)) ≡ true
no_end_of true m n h k = no_end m h
no_end_of false m n h k = no_end n k

glyph-no_end : (d : ℕ) → not (ends_line (digit_glyph false d)) ≡ true
glyph-no_end d = no_end_of (nat_lt d 10) (48 + d) (87 + d) (omega arith) (omega arith)

-- a byte that ends no line goes in front of a value
onto : (b : ℕ) (text : List ℕ) → not (ends_line b) ≡ true → is_header_value text ≡ true → is_header_value (b ∷ text) ≡ true
onto b text h k = cc

either : (b : Bool) (xs ys : List ℕ) → is_header_value xs ≡ true → is_header_value ys ≡ true → is_header_value (cond b xs ys) ≡ true
either true xs ys h k = h
either false xs ys h k = k

digits_onto-value : (k n : ℕ) (text : List ℕ) → is_header_value text ≡ true → is_header_value (digits_onto k 10 false n text) ≡ true
digits_onto-value zero n text h = h
digits_onto-value (suc k) n text h =
    let more = onto (digit_glyph false (n % 10)) text (glyph-no_end (n % 10)) h in
    either (n / 10 == 0) (digit_glyph false (n % 10) ∷ text) (digits_onto k 10 false (n / 10) (digit_glyph false (n % 10) ∷ text)) more (digits_onto-value k (n / 10) (digit_glyph false (n % 10) ∷ text) more)

-- a number's text is a value
pub decimal-value : (n : ℕ) → is_header_value (decimal n) ≡ true
unfolding digits
decimal-value n = digits_onto-value 64 n [] refl

pub signed_decimal-value : (v : ℤ) → is_header_value (signed_decimal v) ≡ true
signed_decimal-value (pos n) = decimal-value n
signed_decimal-value (negsuc n) = onto 45 (decimal (suc n)) refl (decimal-value (suc n))
