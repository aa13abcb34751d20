-- The lines of a block, one after another.
use Rattle.std.proofs.Common.{◌≡◌, ◌≢◌, ℕ, Bool, true, false, List, [], ◌∷◌, length, Option, Some, None, option_map, refl, ap, sym, ◌∙◌, arith}
use Rattle.std.specs.Prelude.{◌==◌, ◌&&◌, if◌then◌else◌, codes}
use Rattle.std.specs.Str.{bytes_eq}
use Rattle.std.specs.List.{onto_first}
use Rattle.std.proofs.lemmas.Bool.{eqb-true}
use Rattle.nats_header.specs.Headers.{Headers}
use Rattle.nats_block.specs.Fields.{Pair, tested, with_field, all_appended, onto_fields}
use Rattle.nats_lines.specs.Operations.{Cut, onto_line, cut_line}
use Rattle.nats_client_text.specs.Blocks.{lines_of, field_behind, field_of, ended_by, fields_of, headers_of, block_of_lines, block_of}
use Rattle.nats_client_text.specs.Code.{cut_view, lines_from}
use Rattle.nats_client_text.specs.declared.cut.CutText.{CutText}

-- the lines of a text, by its cut
abbrev pub lines_cut : Option Cut → List ℕ → List (List ℕ)
lines_cut None text = text ∷ []
lines_cut (Some cut) text = cut.line ∷ lines_of cut.rest

cut_step : (test : Bool) (a b : ℕ) (rest : List ℕ) (inner : Option Cut) (later : List (List ℕ)) → lines_cut inner (b ∷ rest) ≡ later
    → lines_cut (if test then Some (record { line = []; rest = rest }) else option_map (onto_line a) inner) (a ∷ b ∷ rest)
    ≡ (if test then [] ∷ lines_of rest else onto_first a later)
cut_step true a b rest inner later is = refl
cut_step false a b rest None later is = ap (onto_first a) is
cut_step false a b rest (Some cut) later is = ap (onto_first a) is

lines_by : (text : List ℕ) → lines_cut (cut_line text) text ≡ lines_of text
lines_by [] = refl
lines_by (a ∷ []) = refl
lines_by (a ∷ b ∷ rest) = cut_step (a == 13 && b == 10) a b rest (cut_line (b ∷ rest)) (lines_of (b ∷ rest)) (lines_by (b ∷ rest))

pub lines_by_cut : (text : List ℕ) (found : Option Cut) → found ≡ cut_line text → lines_cut found text ≡ lines_of text
lines_by_cut text found is = ap (λ found. lines_cut found text) is ∙ lines_by text

-- a text has a line
has_line : (text : List ℕ) → length (lines_of text) ≡ 0 → ⊥
has_line text is = more (cut_line text) text (ap length (lines_by text) ∙ is)
  where
    more : (found : Option Cut) (text : List ℕ) → length (lines_cut found text) ≡ 0 → ⊥
    more None text is = omega (arith, is)
    more (Some cut) text is = omega (arith, is)

empty_is : (line : List ℕ) → (length line == 0) ≡ true → line ≡ []
empty_is [] is = refl
empty_is (byte ∷ line) is = absurd (omega (arith, eqb-true (length (byte ∷ line)) 0 is))

-- an empty line behind which nothing stands ends the block
pub fields_end : (line rest : List ℕ) → (length line == 0) ≡ true → (length rest == 0) ≡ true → fields_of (line ∷ lines_of rest) ≡ Some []
fields_end line rest none behind = rw (empty_is line none, empty_is rest behind) refl

first_step : (a : ℕ) (lines : List (List ℕ)) → ended_by (onto_first a lines) ≡ None
first_step a [] = refl
first_step a (line ∷ lines) = refl

empty_step : (lines : List (List ℕ)) → (length lines ≡ 0 → ⊥) → ended_by ([] ∷ lines) ≡ None
empty_step [] some = absurd (some refl)
empty_step (line ∷ lines) some = refl

ended_step : (test : Bool) (a : ℕ) (rest : List ℕ) (later : List (List ℕ)) → ended_by (if test then [] ∷ lines_of rest else onto_first a later) ≡ None
ended_step true a rest later = empty_step (lines_of rest) (has_line rest)
ended_step false a rest later = first_step a later

not_ended : (rest : List ℕ) → (length rest == 0) ≡ false → ended_by (lines_of rest) ≡ None
not_ended [] is = cc
not_ended (a ∷ []) is = refl
not_ended (a ∷ b ∷ rest) is = ended_step (a == 13 && b == 10) a rest (lines_of (b ∷ rest))

-- and where something stands there it is none
pub fields_past : (line rest : List ℕ) → (length line == 0) ≡ true → (length rest == 0) ≡ false → fields_of (line ∷ lines_of rest) ≡ None
fields_past line rest none behind = rw (empty_is line none) (not_ended rest behind)

onto_none : (field : Option Pair) → onto_fields field None ≡ None
onto_none None = refl
onto_none (Some field) = refl

alone_step : (test : Bool) (line : List ℕ) → (if test then ended_by [] else onto_fields (field_of line) None) ≡ None
alone_step true line = refl
alone_step false line = onto_none (field_of line)

-- a line behind which no CR LF stands ends nothing
pub fields_alone : (line : List ℕ) → fields_of (line ∷ []) ≡ None
fields_alone line = alone_step (length line == 0) line

onto_step : (headers new : Headers) (field : Option Pair) (fields : Option (List Pair)) → option_map (with_field headers) field ≡ Some new
    → option_map (all_appended headers) (onto_fields field fields) ≡ option_map (all_appended new) fields
onto_step headers new None fields is = cc
onto_step headers new (Some field) None is = refl
onto_step headers new (Some field) (Some fields) is =
    let e : with_field headers field ≡ new = cc in
    ap (λ h. Some (all_appended h fields)) e

first_field : (test : Bool) (line : List ℕ) (lines : List (List ℕ)) → test ≡ false
    → (if test then ended_by lines else onto_fields (field_of line) (fields_of lines)) ≡ onto_fields (field_of line) (fields_of lines)
first_field true line lines is = cc
first_field false line lines is = refl

-- a field is read, and the others are left
pub fields_read : (headers new : Headers) (line : List ℕ) (lines : List (List ℕ)) → (length line == 0) ≡ false
    → option_map (with_field headers) (field_of line) ≡ Some new
    → option_map (all_appended headers) (fields_of (line ∷ lines)) ≡ option_map (all_appended new) (fields_of lines)
fields_read headers new line lines some is =
    ap (option_map (all_appended headers)) (first_field (length line == 0) line lines some)
    ∙ onto_step headers new (field_of line) (fields_of lines) is

bad_step : (headers : Headers) (field : Option Pair) (fields : Option (List Pair)) → option_map (with_field headers) field ≡ None
    → option_map (all_appended headers) (onto_fields field fields) ≡ None
bad_step headers None fields is = refl
bad_step headers (Some field) fields is = cc

-- a line that is no field spoils them
pub fields_bad : (headers : Headers) (line : List ℕ) (lines : List (List ℕ)) → (length line == 0) ≡ false
    → option_map (with_field headers) (field_of line) ≡ None → option_map (all_appended headers) (fields_of (line ∷ lines)) ≡ None
fields_bad headers line lines some is =
    ap (option_map (all_appended headers)) (first_field (length line == 0) line lines some)
    ∙ bad_step headers (field_of line) (fields_of lines) is

-- the lines of what the reader cut
pub lines_seen : (found : Option CutText) (text : List ℕ) → lines_from found text ≡ lines_cut (option_map cut_view found) text
lines_seen None text = refl
lines_seen (Some cut) text = refl

space_step : (test : Bool) (name value : List ℕ) (space : ℕ) → (space == 32) ≡ test → ((rest : List ℕ) → space ∷ value ≢ 32 ∷ rest)
    → (if test then tested (name, value) else None) ≡ None
space_step true name value space is never = absurd (never value (ap (λ b. b ∷ value) (eqb-true space 32 is)))
space_step false name value space is never = refl

-- a colon without a space behind it is none of a field
pub not_spaced : (name behind : List ℕ) → ((rest : List ℕ) → behind ≢ 32 ∷ rest) → field_behind name behind ≡ None
not_spaced name [] never = refl
not_spaced name (space ∷ value) never = space_step (space == 32) name value space refl never

version_step : (test : Bool) (lines : List (List ℕ)) (headers : Option Headers) → test ≡ true → (if test then headers else None) ≡ headers
version_step true lines headers is = refl
version_step false lines headers is = cc

-- the headers behind the version's line
pub block_read : (block first rest : List ℕ) → first ∷ lines_of rest ≡ lines_of block → bytes_eq first (codes "NATS/1.0") ≡ true
    → block_of block ≡ headers_of (lines_of rest)
unfolding block_of
block_read block first rest is version =
    ap block_of_lines (sym is) ∙ version_step (bytes_eq first (codes "NATS/1.0")) (lines_of rest) (headers_of (lines_of rest)) version

other_step : (test : Bool) (headers : Option Headers) → test ≡ false → (if test then headers else None) ≡ None
other_step true headers is = cc
other_step false headers is = refl

pub other_version : (block first rest : List ℕ) → first ∷ lines_of rest ≡ lines_of block → bytes_eq first (codes "NATS/1.0") ≡ false
    → block_of block ≡ None
unfolding block_of
other_version block first rest is version =
    ap block_of_lines (sym is) ∙ other_step (bytes_eq first (codes "NATS/1.0")) (headers_of (lines_of rest)) version

one_step : (test : Bool) → (if test then headers_of [] else None) ≡ None
one_step true = refl
one_step false = refl

pub one_line : (block : List ℕ) → block ∷ [] ≡ lines_of block → block_of block ≡ None
unfolding block_of
one_line block is = ap block_of_lines (sym is) ∙ one_step (bytes_eq block (codes "NATS/1.0"))
