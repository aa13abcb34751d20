-- The pieces of a line, and the text that it is.
use Rattle.std.proofs.Common.{◌≡◌, ◌≢◌, ℕ, suc, ◌<◌, Bool, true, false, List, [], ◌∷◌, length, get_or, Option, None, refl, ap, sym, ◌∙◌, arith, tests}
use Rattle.std.specs.Prelude.{◌==◌, ◌&&◌, if◌then◌else◌}
use Rattle.std.specs.List.{list_all, slice_split, onto_first, position_or_len, before_first, after_first}
use Rattle.std.proofs.lemmas.List.Splits.{slice_split_first}
use Rattle.std.specs.Str.{is_utf8, IsUtf8}
use Rattle.std.proofs.lemmas.Str.{IsUtf8-from_is_utf8, is_utf8-from_IsUtf8}
use Rattle.nats_names.specs.Names.{is_publishable}
use Rattle.nats_block.specs.Fields.{Pair}
use Rattle.nats_block.specs.Lines.{cut_at}
use Rattle.nats_client_text.specs.Pieces.{pieces_of}
use Rattle.nats_client_text.specs.Blocks.{field_cut, field_of}
use Rattle.nats_client_text.specs.Grammar.{Line, line_of_pieces, line_of}

-- what stands before a line's first space is its first piece, and the others stand behind
pub pieces_at_space : (text piece rest : List ℕ) → position_or_len (λ b. b == 32) text < length text
    → piece ≡ before_first (λ b. b == 32) text → rest ≡ after_first (λ b. b == 32) text → piece ∷ pieces_of rest ≡ pieces_of text
pieces_at_space text piece rest inside front behind =
    let first = slice_split_first (λ b. b == 32) text 0 inside in
    let whole : slice_split (λ b. b == 32) text ≡ piece ∷ slice_split (λ b. b == 32) rest = cc in
    sym whole

whole_step : (test : Bool) (x : ℕ) (text : List ℕ) → (x == 32) ≡ test → x ≢ 32 → slice_split (λ b. b == 32) text ≡ text ∷ []
    → (if test then [] ∷ slice_split (λ b. b == 32) text else onto_first x (slice_split (λ b. b == 32) text)) ≡ (x ∷ text) ∷ []
whole_step true x text is other whole = absurd (other (grind (arith, tests)))
whole_step false x text is other whole = ap (onto_first x) whole

split_whole : (text : List ℕ) → ((i : ℕ) → i < length text → get_or text i 0 ≢ 32) → slice_split (λ b. b == 32) text ≡ text ∷ []
split_whole [] never = refl
split_whole (x ∷ text) never =
    whole_step (x == 32) x text refl (never 0 (omega arith)) (split_whole text (λ i inside. never (suc i) (omega arith)))

-- a line without a space is its one piece
pub pieces_whole : (text : List ℕ) → ((i : ℕ) → i < length text → get_or text i 0 ≢ 32) → text ∷ [] ≡ pieces_of text
pieces_whole text never = sym (split_whole text never)

utf8_step : (utf8 right : Bool) (line : Option Line) → utf8 ≡ true → (if utf8 && right then line else None) ≡ (if right then line else None)
utf8_step true right line is = refl
utf8_step false right line is = cc

-- what a line says where it is text
pub line_of_utf8 : (bytes text : List ℕ) → text ≡ bytes → IsUtf8 bytes
    → line_of bytes ≡ (if list_all is_publishable (pieces_of text) then line_of_pieces (pieces_of text) else None)
line_of_utf8 bytes text same utf8 =
    utf8_step (is_utf8 bytes) (list_all is_publishable (pieces_of bytes)) (line_of_pieces (pieces_of bytes)) (is_utf8-from_IsUtf8 bytes utf8)
    ∙ ap (λ t. if list_all is_publishable (pieces_of t) then line_of_pieces (pieces_of t) else None) (sym same)

other_step : {A : Type 0} (utf8 right : Bool) (bytes : List ℕ) (line : Option A) → is_utf8 bytes ≡ utf8 → ¬ (IsUtf8 bytes)
    → None ≡ (if utf8 && right then line else None)
other_step true right bytes line is never = absurd (never (IsUtf8-from_is_utf8 bytes is))
other_step false right bytes line is never = refl

-- and where it is none
pub no_line : (bytes : List ℕ) → ¬ (IsUtf8 bytes) → None ≡ line_of bytes
no_line bytes never = other_step (is_utf8 bytes) _ bytes (line_of_pieces (pieces_of bytes)) refl never

field_step : (utf8 : Bool) (field : Option Pair) → utf8 ≡ true → (if utf8 then field else None) ≡ field
field_step true field is = refl
field_step false field is = cc

-- the field of a line that is text
pub field_of_utf8 : (bytes text : List ℕ) → text ≡ bytes → IsUtf8 bytes → field_of bytes ≡ field_cut (cut_at 58 text)
field_of_utf8 bytes text same utf8 =
    field_step (is_utf8 bytes) (field_cut (cut_at 58 bytes)) (is_utf8-from_IsUtf8 bytes utf8) ∙ ap (λ t. field_cut (cut_at 58 t)) (sym same)

no_field_step : (utf8 : Bool) (bytes : List ℕ) (field : Option Pair) → is_utf8 bytes ≡ utf8 → ¬ (IsUtf8 bytes) → (if utf8 then field else None) ≡ None
no_field_step true bytes field is never = absurd (never (IsUtf8-from_is_utf8 bytes is))
no_field_step false bytes field is never = refl

-- other bytes are none
pub no_field : (bytes : List ℕ) → ¬ (IsUtf8 bytes) → field_of bytes ≡ None
no_field bytes never = no_field_step (is_utf8 bytes) bytes (field_cut (cut_at 58 bytes)) refl never
