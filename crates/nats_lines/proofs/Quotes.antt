-- A text loses its quotes one after another.
use Rattle.std.proofs.Common.{◌≡◌, ◌≢◌, ℕ, Bool, true, false, List, [], ◌∷◌, ◌++◌, reverse, Some, None, refl, ap, sym, ◌∙◌, arith, tests}
use Rattle.std.specs.Prelude.{◌==◌, if◌then◌else◌}
use Rattle.std.proofs.lemmas.List.{reverse-append, reverse-reverse}
use Rattle.std.specs.Str.{IsUtf8, is_utf8}
use Rattle.std.proofs.lemmas.Str.{IsUtf8-from_is_utf8, is_utf8-from_IsUtf8}
use Rattle.nats_names.specs.declared.server_error.ServerError.{ServerError}
use Rattle.nats_lines.specs.Operations.{without_first_quotes, without_quotes, error_by, error_of_text}

-- a quote at the start goes
pub quote_first : (text rest : List ℕ) → text ≡ 39 ∷ rest → without_first_quotes rest ≡ without_first_quotes text
quote_first text rest is = sym (ap without_first_quotes is)

other_step : (test : Bool) (b : ℕ) (text : List ℕ) → (b == 39) ≡ test → b ≢ 39 → (if test then without_first_quotes text else b ∷ text) ≡ b ∷ text
other_step true b text is other = absurd (other (grind (arith, tests)))
other_step false b text is other = refl

-- a text without one there stays
pub no_quote_first : (text : List ℕ) → ((rest : List ℕ) → text ≢ 39 ∷ rest) → without_first_quotes text ≡ text
no_quote_first [] never = refl
no_quote_first (b ∷ text) never = other_step (b == 39) b text refl (λ e. never text (ap (λ x. x ∷ text) e))

-- a quote at the end goes
pub quote_last : (text front : List ℕ) → text ≡ front ++ 39 ∷ [] → without_first_quotes (reverse front) ≡ without_first_quotes (reverse text)
quote_last text front is =
    quote_first (reverse text) (reverse front) (ap reverse is ∙ reverse-append front (39 ∷ []))

-- a text without one there stays
pub no_quote_last : (text : List ℕ) → ((front : List ℕ) → text ≢ front ++ 39 ∷ []) → reverse (without_first_quotes (reverse text)) ≡ text
no_quote_last text never =
    ap reverse (no_quote_first (reverse text) (λ rest e. never (reverse rest) (sym (reverse-reverse text) ∙ ap reverse e ∙ reverse-append (39 ∷ []) rest)))
    ∙ reverse-reverse text

utf8_step : (test : Bool) (error : ServerError) → test ≡ true → (if test then Some error else None) ≡ Some error
utf8_step true error is = refl
utf8_step false error is = cc

-- what a line tells where it is text
pub error_of_utf8 : (text : List ℕ) → IsUtf8 text → error_of_text text ≡ Some (error_by (without_quotes text))
error_of_utf8 text utf8 = utf8_step (is_utf8 text) (error_by (without_quotes text)) (is_utf8-from_IsUtf8 text utf8)

none_step : (test : Bool) (text : List ℕ) → is_utf8 text ≡ test → ¬ (IsUtf8 text) → None ≡ (if test then Some (error_by (without_quotes text)) else None)
none_step true text is never = absurd (never (IsUtf8-from_is_utf8 text is))
none_step false text is never = refl

-- and where it is none
pub no_error : (text : List ℕ) → ¬ (IsUtf8 text) → None ≡ error_of_text text
no_error text never = none_step (is_utf8 text) text refl never
