-- A block is read from its text.
use Rattle.std.proofs.Common.{◌≡◌, ℕ, Bool, true, false, List, Option, None, refl, sym, ap, ◌∙◌}
use Rattle.std.specs.Prelude.{if◌then◌else◌}
use Rattle.std.specs.Str.{is_utf8, IsUtf8}
use Rattle.std.specs.Str.Lines.{lines}
use Rattle.std.proofs.lemmas.Str.{IsUtf8-from_is_utf8, is_utf8-from_IsUtf8}
use Rattle.nats_block.specs.Block.{block_of_lines, block_of}
use Rattle.nats_block.specs.declared.block.Block.{Block}

where_true : (test : Bool) (spelled : Option Block) → test ≡ true → (if test then spelled else None) ≡ spelled
where_true true spelled is = refl
where_true false spelled is = cc

-- what UTF-8 spells
pub spelled_by_text : (bytes text : List ℕ) → text ≡ bytes → IsUtf8 bytes → block_of bytes ≡ block_of_lines (lines text)
unfolding block_of
spelled_by_text bytes text same utf8 =
    where_true (is_utf8 bytes) (block_of_lines (lines bytes)) (is_utf8-from_IsUtf8 bytes utf8) ∙ ap (λ t. block_of_lines (lines t)) (sym same)

other_step : (test : Bool) (bytes : List ℕ) (spelled : Option Block) → is_utf8 bytes ≡ test → ¬ (IsUtf8 bytes)
    → (if test then spelled else None) ≡ None
other_step true bytes spelled is never = absurd (never (IsUtf8-from_is_utf8 bytes is))
other_step false bytes spelled is never = refl

-- other bytes spell nothing
pub no_text : (bytes : List ℕ) → ¬ (IsUtf8 bytes) → block_of bytes ≡ None
unfolding block_of
no_text bytes never = other_step (is_utf8 bytes) bytes (block_of_lines (lines bytes)) refl never
