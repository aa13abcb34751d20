-- The fields of some lines, read one after another.
use Rattle.std.proofs.Common.{◌≡◌, ℕ, ◌≤◌, Bool, true, false, List, [], ◌∷◌, length, Option, Some, None, option_map, refl, ap, ◌∙◌, arith}
use Rattle.std.specs.Prelude.{◌==◌, if◌then◌else◌}
use Rattle.std.specs.Str.{chars}
use Rattle.std.proofs.lemmas.Bool.{eqb-true}
use Rattle.nats_header.specs.Headers.{Headers}
use Rattle.nats_block.specs.Lines.{goes_on, joined}
use Rattle.nats_block.specs.Fields.{Pair, field_of, onto_fields, fields_from, fields_of, with_field, all_appended}
use Rattle.nats_block.specs.Code.{past_joined}

-- an empty line doesn't go on
empty_ends : (line : List ℕ) → (length line == 0) ≡ true → goes_on line ≡ false
unfolding chars
empty_ends [] is = refl
empty_ends (b ∷ line) is = absurd (omega (arith, eqb-true (length (b ∷ line)) 0 is))

past_step : (empty on : Bool) (line : List ℕ) (lines : List (List ℕ)) → (length line == 0) ≡ empty → goes_on line ≡ on
    → fields_from true lines ≡ fields_from false (past_joined lines)
    → (if empty then fields_from false lines else (if on then fields_from true lines else onto_fields (field_of line (joined lines)) (fields_from true lines)))
    ≡ fields_from false (if on then past_joined lines else line ∷ lines)
past_step true true line lines empty on rest = let never = empty_ends line empty in cc
past_step true false line lines empty on rest = rw empty refl
past_step false true line lines empty on rest = rest
past_step false false line lines empty on rest = rw empty refl

-- lines that go on behind a field's line are passed over
pub past_open : (lines : List (List ℕ)) → fields_from true lines ≡ fields_from false (past_joined lines)
past_open [] = refl
past_open (line ∷ lines) = past_step (length line == 0) (goes_on line) line lines refl refl (past_open lines)

-- a line that isn't empty begins a field
fields_first : (line : List ℕ) (lines : List (List ℕ)) → (length line == 0) ≡ false
    → fields_of (line ∷ lines) ≡ onto_fields (field_of line (joined lines)) (fields_of (past_joined lines))
fields_first line lines some =
    rw some (ap (onto_fields (field_of line (joined lines))) (past_open lines))

onto_step : (headers new : Headers) (field : Option Pair) (fields : Option (List Pair)) → option_map (with_field headers) field ≡ Some new
    → option_map (all_appended headers) (onto_fields field fields) ≡ option_map (all_appended new) fields
onto_step headers new None fields is = cc
onto_step headers new (Some field) None is = refl
onto_step headers new (Some field) (Some fields) is =
    let e : with_field headers field ≡ new = cc in
    ap (λ h. Some (all_appended h fields)) e

-- a field is read, and the others are left
pub fields_read : (headers new : Headers) (line : List ℕ) (lines : List (List ℕ)) → (length line == 0) ≡ false
    → option_map (with_field headers) (field_of line (joined lines)) ≡ Some new
    → option_map (all_appended headers) (fields_of (line ∷ lines)) ≡ option_map (all_appended new) (fields_of (past_joined lines))
fields_read headers new line lines some is =
    ap (option_map (all_appended headers)) (fields_first line lines some)
    ∙ onto_step headers new (field_of line (joined lines)) (fields_of (past_joined lines)) is

-- no more lines are left behind those that go on
length_step : (on : Bool) (line : List ℕ) (lines : List (List ℕ)) → length (past_joined lines) ≤ length lines
    → length (if on then past_joined lines else line ∷ lines) ≤ length (line ∷ lines)
length_step true line lines rest = omega arith
length_step false line lines rest = omega arith

pub length-past_joined : (lines : List (List ℕ)) → length (past_joined lines) ≤ length lines
length-past_joined [] = omega arith
length-past_joined (line ∷ lines) = length_step (goes_on line) line lines (length-past_joined lines)
