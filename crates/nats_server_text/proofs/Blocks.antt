-- A header block that is told is read back, its values without the white space at their ends.
use Rattle.std.proofs.Common.{◌≡◌, ℕ, suc, ◌+◌, ◌<◌, Bool, true, false, cond, not, List, [], ◌∷◌, ◌++◌, length, take, drop, map, Option, Some, None, option_map, refl, ap, sym, ◌∙◌, arith, tests, lit<, append_assoc, length-append}
use Rattle.std.specs.Prelude.{◌==◌, ◌&&◌, nat_lt, if◌then◌else◌, codes}
use Rattle.std.specs.Char.{is_whitespace, encode_utf8}
use Rattle.std.specs.List.{list_all, flat_map, position_or_len, slice_split, onto_first, IsDistinct}
use Rattle.std.specs.Map.{keys_of}
use Rattle.std.specs.Str.{is_utf8, IsUtf8, bytes_eq, chars, encode_utf8_all, all_scalars, skip_leading_whitespace, drop_trailing_whitespace, trim_start, trim_end, trim}
use Rattle.std.specs.Str.Lines.{lines, lines_of_parts, strip_carriage_return}
use Rattle.std.proofs.Math.Seq.{take-append_seam, drop-append-add}
use Rattle.std.proofs.lemmas.List.{append-nil}
use Rattle.std.proofs.lemmas.List.Splits.{length-slice_split}
use Rattle.std.proofs.lemmas.Bool.{lt-ltb}
use Rattle.std.proofs.lemmas.Str.{IsUtf8-from_is_utf8, IsUtf8-append, chars-nil, chars_from_encodes, encodes-chars}
use Rattle.nats_header.specs.Names.{is_name_byte, is_header_name, ends_line, is_header_value}
use Rattle.nats_header.specs.Headers.{Headers, is_field, are_fields}
use Rattle.nats_header.specs.Block as written
use Rattle.nats_block.specs.declared.block.Block.{Block}
use Rattle.nats_block.specs.declared.head.Head.{Head}
use Rattle.nats_block.specs.Lines.{cut_at, is_white, goes_on, joined}
use Rattle.nats_block.specs.Fields.{Pair, tested, field_with, field_of, all_appended, onto_fields, fields_from}
use Rattle.nats_block.specs.Head.{head_of}
use Rattle.nats_block.specs.Block.{block_with, block_of_lines, block_of}
use Rattle.nats_block.proofs.Cuts.{cr_stripped}
use Rattle.nats_block.proofs.Reading.{spelled_by_text}
use Rattle.nats_client_text.specs.Law.{AreTexts, HaveTexts, AreHeaders}
use Rattle.nats_routing.specs.Texts.{no_responders}
use Rattle.nats_server_text.specs.Said.{trimmed_field, trimmed}
use Rattle.nats_server_text.proofs.Cuts.{if_true, if_false, both, AreSmall, small_utf8, char_first}
use Rattle.nats_server_text.proofs.Headers.{HaveValues, pairs_of, map_back}

-- ---- lines

-- no byte is an LF
abbrev NoFeed : List ℕ → Type 0
NoFeed [] = Unit {0}
NoFeed (b ∷ bytes) = ((b == 10) ≡ false) × NoFeed bytes

no_feed_append : (xs ys : List ℕ) → NoFeed xs → NoFeed ys → NoFeed (xs ++ ys)
no_feed_append [] ys is are = are
no_feed_append (x ∷ xs) ys is are = (is.0, no_feed_append xs ys is.1 are)

abbrev parts_of : List ℕ → List (List ℕ)
parts_of text = slice_split (λ b. b == 10) text

onto_step : (test : Bool) (x : ℕ) (first : List ℕ) (later parts : List (List ℕ)) → test ≡ false → parts ≡ first ∷ later
    → (if test then [] ∷ parts else onto_first x parts) ≡ (x ∷ first) ∷ later
onto_step true x first later parts is same = cc
onto_step false x first later parts is same = ap (onto_first x) same

feed_at : (line rest : List ℕ) → NoFeed line → parts_of (line ++ 13 ∷ 10 ∷ rest) ≡ (line ++ 13 ∷ []) ∷ parts_of rest
feed_at [] rest is = refl
feed_at (b ∷ line) rest is = onto_step (b == 10) b (line ++ 13 ∷ []) (parts_of rest) (parts_of (line ++ 13 ∷ 10 ∷ rest)) is.0 (feed_at line rest is.1)

parts_step : (line : List ℕ) (parts : List (List ℕ)) → 0 < length parts → lines_of_parts (line ∷ parts) ≡ strip_carriage_return line ∷ lines_of_parts parts
parts_step line [] some = absurd (omega arith)
parts_step line (part ∷ parts) some = refl

-- a line that ends at CR LF is the first
line_first : (line rest : List ℕ) → NoFeed line → lines (line ++ 13 ∷ 10 ∷ rest) ≡ line ∷ lines rest
line_first line rest is =
    ap lines_of_parts (feed_at line rest is)
    ∙ parts_step (line ++ 13 ∷ []) (parts_of rest) (omega (arith, length-slice_split (λ b. b == 10) rest))
    ∙ ap (λ (first : List ℕ). first ∷ lines rest) (sym (cr_stripped (line ++ 13 ∷ []) line refl))

-- ---- values without the white space at their ends

abbrev Holds : List ℕ → Type 0
Holds cs = is_header_value (encode_utf8_all cs) ≡ true

and_true : (a b : Bool) → a ≡ true → b ≡ true → (a && b) ≡ true
and_true a b p q = rw (p, q) refl

both_parts : (xs ys : List ℕ) → is_header_value (xs ++ ys) ≡ true → (is_header_value xs ≡ true) × (is_header_value ys ≡ true)
both_parts [] ys is = (refl, is)
both_parts (x ∷ xs) ys is =
    let parts = both (not (ends_line x)) (is_header_value (xs ++ ys)) is in
    let rest = both_parts xs ys parts.1 in
    (and_true (not (ends_line x)) (is_header_value xs) parts.0 rest.0, rest.1)

joined_parts : (xs ys : List ℕ) → is_header_value xs ≡ true → is_header_value ys ≡ true → is_header_value (xs ++ ys) ≡ true
joined_parts [] ys is are = are
joined_parts (x ∷ xs) ys is are =
    let parts = both (not (ends_line x)) (is_header_value xs) is in
    and_true (not (ends_line x)) (is_header_value (xs ++ ys)) parts.0 (joined_parts xs ys parts.1 are)

skip_step : (white : Bool) (c : ℕ) (cs : List ℕ) (P : List ℕ → Type 0) → P (skip_leading_whitespace cs) → P (c ∷ cs)
    → P (cond white (skip_leading_whitespace cs) (c ∷ cs))
skip_step true c cs P less all = less
skip_step false c cs P less all = all

skip_holds : (cs : List ℕ) → Holds cs → Holds (skip_leading_whitespace cs)
skip_holds [] is = is
skip_holds (c ∷ cs) is =
    skip_step (is_whitespace c) c cs Holds (skip_holds cs (both_parts (encode_utf8 c) (encode_utf8_all cs) is).1) is

scalars_more : (c : ℕ) (cs : List ℕ) → all_scalars (c ∷ cs) ≡ true → all_scalars cs ≡ true
scalars_more c cs is = (both _ (all_scalars cs) is).1

skip_scalars : (cs : List ℕ) → all_scalars cs ≡ true → all_scalars (skip_leading_whitespace cs) ≡ true
skip_scalars [] is = is
skip_scalars (c ∷ cs) is =
    skip_step (is_whitespace c) c cs (λ cs. all_scalars cs ≡ true) (skip_scalars cs (scalars_more c cs is)) is

drop_step : (test : Bool) (c : ℕ) (cs : List ℕ) → Holds (c ∷ cs) → Holds (cond test [] (c ∷ cs))
drop_step true c cs is = refl
drop_step false c cs is = is

drop_holds : (cs : List ℕ) → Holds cs → Holds (drop_trailing_whitespace cs)
drop_holds [] is = is
drop_holds (c ∷ cs) is =
    let parts = both_parts (encode_utf8 c) (encode_utf8_all cs) is in
    drop_step (is_whitespace c && length (drop_trailing_whitespace cs) == 0) c (drop_trailing_whitespace cs)
    (joined_parts (encode_utf8 c) (encode_utf8_all (drop_trailing_whitespace cs)) parts.0 (drop_holds cs parts.1))

holds_chars : (text : List ℕ) → IsUtf8 text → is_header_value text ≡ true → Holds (chars text)
holds_chars text utf8 is = ap is_header_value (encodes-chars text utf8) ∙ is

chars_scalars : (text : List ℕ) → IsUtf8 text → all_scalars (chars text) ≡ true
chars_scalars text utf8 = ap all_scalars (sym (chars_from_encodes utf8.0 text utf8 utf8.1.1)) ∙ utf8.1.0

start_utf8 : (text : List ℕ) → IsUtf8 text → IsUtf8 (trim_start text)
unfolding trim_start
start_utf8 text utf8 = (skip_leading_whitespace (chars text), (skip_scalars (chars text) (chars_scalars text utf8), refl))

start_value : (text : List ℕ) → IsUtf8 text → is_header_value text ≡ true → is_header_value (trim_start text) ≡ true
unfolding trim_start
start_value text utf8 is = skip_holds (chars text) (holds_chars text utf8 is)

end_value : (text : List ℕ) → IsUtf8 text → is_header_value text ≡ true → is_header_value (trim_end text) ≡ true
unfolding trim_end
end_value text utf8 is = drop_holds (chars text) (holds_chars text utf8 is)

trim_value : (value : List ℕ) → IsUtf8 value → is_header_value value ≡ true → is_header_value (trim value) ≡ true
trim_value value utf8 is = end_value (trim_start value) (start_utf8 value utf8) (start_value value utf8 is)

-- the space behind the colon is white space at the value's start
start_space : (value : List ℕ) → trim_start (32 ∷ value) ≡ trim_start value
unfolding trim_start
start_space value = ap (λ cs. encode_utf8_all (skip_leading_whitespace cs)) (char_first 32 value (lit< tt))

value_read : (value : List ℕ) → trim_end (trim_start (32 ∷ value) ++ []) ≡ trim value
value_read value = ap trim_end (append-nil (trim_start (32 ∷ value)) ∙ start_space value)

-- ---- fields

abbrev IsPair : Pair → Type 0
IsPair pair = (is_header_name pair.0 ≡ true) × (is_utf8 pair.1 ≡ true) × (is_header_value pair.1 ≡ true)

abbrev ArePairs : List Pair → Type 0
ArePairs [] = Unit {0}
ArePairs (pair ∷ pairs) = IsPair pair × ArePairs pairs

abbrev trimmed_pair : Pair → Pair
trimmed_pair pair = (pair.0, trim pair.1)

name_byte : (b : ℕ) → is_name_byte b ≡ true → ((b == 10) ≡ false) × ((b == 58) ≡ false) × (b < 128) × (is_whitespace b ≡ false)
name_byte b is = (grind (arith, tests), grind (arith, tests), grind (arith, tests), grind (arith, tests))

value_byte : (b : ℕ) → not (ends_line b) ≡ true → (b == 10) ≡ false
value_byte b is = grind (arith, tests)

name_small : (name : List ℕ) → is_header_name name ≡ true → AreSmall name
name_small [] is = tt
name_small (b ∷ name) is =
    let parts = both (is_name_byte b) (list_all is_name_byte name) is in
    ((name_byte b parts.0).2, name_small name parts.1)

name_no_feed : (name : List ℕ) → is_header_name name ≡ true → NoFeed name
name_no_feed [] is = tt
name_no_feed (b ∷ name) is =
    let parts = both (is_name_byte b) (list_all is_name_byte name) is in
    ((name_byte b parts.0).0, name_no_feed name parts.1)

value_no_feed : (value : List ℕ) → is_header_value value ≡ true → NoFeed value
value_no_feed [] is = tt
value_no_feed (b ∷ value) is =
    let parts = both (not (ends_line b)) (list_all (λ b. not (ends_line b)) value) is in
    (value_byte b parts.0, value_no_feed value parts.1)

abbrev is_colon : ℕ → Bool
is_colon b = b == 58

next_position : (test : Bool) (n : ℕ) (b : ℕ) (rest : List ℕ) → (b == 58) ≡ test → test ≡ false → position_or_len is_colon rest ≡ n
    → position_or_len is_colon (b ∷ rest) ≡ 1 + n
next_position true n b rest is never same = cc
next_position false n b rest is never same = rw is (ap (λ m. 1 + m) same)

colon_at : (name rest : List ℕ) → is_header_name name ≡ true → position_or_len is_colon (name ++ 58 ∷ rest) ≡ length name
colon_at [] rest is = refl
colon_at (b ∷ name) rest is =
    let parts = both (is_name_byte b) (list_all is_name_byte name) is in
    next_position (b == 58) (length name) b (name ++ 58 ∷ rest) refl (name_byte b parts.0).1 (colon_at name rest parts.1) ∙ omega arith

cut_found : (text name rest : List ℕ) (n : ℕ) → position_or_len is_colon text ≡ n → n < length text → take n text ≡ name → drop (n + 1) text ≡ rest
    → cut_at 58 text ≡ Some (name, rest)
cut_found text name rest n at inside front behind =
    rw at (if_true (nat_lt n (length text)) (Some (take n text, drop (n + 1) text)) None (lt-ltb _ _ inside) ∙ rw (front, behind) refl)

cut_name : (name rest : List ℕ) → is_header_name name ≡ true → cut_at 58 (name ++ 58 ∷ rest) ≡ Some (name, rest)
cut_name name rest is =
    cut_found (name ++ 58 ∷ rest) name rest (length name) (colon_at name rest is) (omega (arith, length-append name (58 ∷ rest))) (take-append_seam name (58 ∷ rest)) (drop-append-add name (58 ∷ rest) 1)

abbrev line_of_pair : Pair → List ℕ
line_of_pair pair = pair.0 ++ 58 ∷ 32 ∷ pair.1

tested_step : (name value : List ℕ) → is_header_name name ≡ true → is_header_value value ≡ true → tested (name, value) ≡ Some (name, value)
tested_step name value p q = rw (p, q) refl

field_read : (pair : Pair) → IsPair pair → field_of (line_of_pair pair) [] ≡ Some (trimmed_pair pair)
field_read pair is =
    ap (field_with []) (cut_name pair.0 (32 ∷ pair.1) is.0)
    ∙ ap (λ (value : List ℕ). tested (pair.0, value)) (value_read pair.1)
    ∙ tested_step pair.0 (trim pair.1) is.0 (trim_value pair.1 (IsUtf8-from_is_utf8 pair.1 is.1) is.2)

pair_no_feed : (pair : Pair) → IsPair pair → NoFeed (line_of_pair pair)
pair_no_feed pair is =
    no_feed_append pair.0 (58 ∷ 32 ∷ pair.1) (name_no_feed pair.0 is.0) (refl, (refl, value_no_feed pair.1 is.2))

-- a field's line does not go on with the one before it
begins_field : (name rest : List ℕ) → is_header_name name ≡ true → goes_on (name ++ 58 ∷ rest) ≡ false
begins_field [] rest is = ap is_white (char_first 58 rest (lit< tt))
begins_field (b ∷ name) rest is =
    let parts = both (is_name_byte b) (list_all is_name_byte name) is in
    let byte = name_byte b parts.0 in
    ap is_white (char_first b (name ++ 58 ∷ rest) byte.2) ∙ byte.3

empty_ends : goes_on [] ≡ false
empty_ends = ap is_white chars-nil

abbrev pairs_text : List Pair → List ℕ
pairs_text [] = []
pairs_text (pair ∷ pairs) = written.value_line pair.0 pair.1 ++ pairs_text pairs

value_parts : (name colon value end : List ℕ) (rest behind : List ℕ)
    → (name ++ colon ++ value ++ end ++ rest) ++ behind ≡ (name ++ (colon ++ value)) ++ (end ++ (rest ++ behind))
value_parts name colon value end rest behind = simp append_assoc

abbrev behind : List Pair → List ℕ
behind pairs = pairs_text pairs ++ 13 ∷ 10 ∷ []

pair_lines : (pair : Pair) (pairs : List Pair) → IsPair pair → lines (behind (pair ∷ pairs)) ≡ line_of_pair pair ∷ lines (behind pairs)
pair_lines pair pairs is =
    ap lines (value_parts pair.0 (codes ": ") pair.1 (13 ∷ 10 ∷ []) (pairs_text pairs) (13 ∷ 10 ∷ []))
    ∙ line_first (line_of_pair pair) (behind pairs) (pair_no_feed pair is)

last_lines : lines (13 ∷ 10 ∷ []) ≡ [] ∷ []
last_lines = refl

joined_none : (line : List ℕ) (more : List (List ℕ)) → goes_on line ≡ false → joined (line ∷ more) ≡ []
joined_none line more is = if_false (goes_on line) (line ++ joined more) [] is

none_joined : (pairs : List Pair) → ArePairs pairs → joined (lines (behind pairs)) ≡ []
none_joined [] are = ap joined last_lines ∙ joined_none [] [] empty_ends
none_joined (pair ∷ pairs) are =
    ap joined (pair_lines pair pairs are.0)
    ∙ joined_none (line_of_pair pair) (lines (behind pairs)) (begins_field pair.0 (32 ∷ pair.1) are.0.0)

not_empty : (name rest : List ℕ) (c : ℕ) → (length (name ++ c ∷ rest) == 0) ≡ false
not_empty [] rest c = grind (arith, tests)
not_empty (b ∷ name) rest c = grind (arith, tests)

and_false : (a b : Bool) → b ≡ false → (a && b) ≡ false
and_false true b is = is
and_false false b is = refl

pairs_read : (is_open : Bool) (pairs : List Pair) → ArePairs pairs → fields_from is_open (lines (behind pairs)) ≡ Some (map trimmed_pair pairs)
pairs_read is_open [] are = ap (fields_from is_open) last_lines
pairs_read is_open (pair ∷ pairs) are =
    let line = line_of_pair pair in
    let more = lines (behind pairs) in
    let others = onto_fields (field_of line (joined more)) (fields_from true more) in
    ap (fields_from is_open) (pair_lines pair pairs are.0)
    ∙ if_false (length line == 0) (fields_from false more) (if is_open && goes_on line then fields_from true more else others) (not_empty pair.0 (32 ∷ pair.1) 58)
    ∙ if_false (is_open && goes_on line) (fields_from true more) others (and_false is_open (goes_on line) (begins_field pair.0 (32 ∷ pair.1) are.0.0))
    ∙ ap (λ joined. onto_fields (field_of line joined) (fields_from true more)) (none_joined pairs are.1)
    ∙ ap (λ field. onto_fields field (fields_from true more)) (field_read pair are.0)
    ∙ ap (onto_fields (Some (trimmed_pair pair))) (pairs_read true pairs are.1)

-- ---- the pairs of headers

are_append : (xs ys : List Pair) → ArePairs xs → ArePairs ys → ArePairs (xs ++ ys)
are_append [] ys is are = are
are_append (x ∷ xs) ys is are = (is.0, are_append xs ys is.1 are)

are_named : (name : List ℕ) (values : List (List ℕ)) → is_header_name name ≡ true → list_all is_header_value values ≡ true → AreTexts values
    → ArePairs (map (λ value. (name, value)) values)
are_named name [] is are texts = tt
are_named name (value ∷ values) is are texts =
    let parts = both (is_header_value value) (list_all is_header_value values) are in
    ((is, texts.0, parts.0), are_named name values is parts.1 texts.1)

has_value : (values : List (List ℕ)) → not (length values == 0) ≡ true → 0 < length values
has_value [] is = cc
has_value (value ∷ values) is = omega arith

are_pairs : (headers : Headers) → are_fields headers ≡ true → HaveTexts headers → ArePairs (pairs_of headers)
are_pairs [] is are = tt
are_pairs (field ∷ fields) is are =
    let parts = both (is_field field) (are_fields fields) is in
    let of_field = both (is_header_name field.0 && not (length field.1 == 0)) (list_all is_header_value field.1) parts.0 in
    let named = both (is_header_name field.0) (not (length field.1 == 0)) of_field.0 in
    are_append (map (λ value. (field.0, value)) field.1) (pairs_of fields) (are_named field.0 field.1 named.0 of_field.1 are.0) (are_pairs fields parts.1 are.1)

length_map : {A B : Type 0} (f : A → B) (xs : List A) → length (map f xs) ≡ length xs
length_map f [] = refl
length_map f (x ∷ xs) = ap suc (length_map f xs)

have_values : (headers : Headers) → are_fields headers ≡ true → HaveValues (trimmed headers)
have_values [] is = tt
have_values (field ∷ fields) is =
    let parts = both (is_field field) (are_fields fields) is in
    let of_field = both (is_header_name field.0 && not (length field.1 == 0)) (list_all is_header_value field.1) parts.0 in
    let named = both (is_header_name field.0) (not (length field.1 == 0)) of_field.0 in
    (rw (length_map trim field.1) (has_value field.1 named.1), have_values fields parts.1)

same_keys : (headers : Headers) → keys_of (trimmed headers) ≡ keys_of headers
same_keys [] = refl
same_keys (field ∷ fields) = ap (λ keys. field.0 ∷ keys) (same_keys fields)

map_over : {A B : Type 0} (f : A → B) (xs ys : List A) → map f (xs ++ ys) ≡ map f xs ++ map f ys
map_over f [] ys = refl
map_over f (x ∷ xs) ys = ap (λ more. f x ∷ more) (map_over f xs ys)

values_trimmed : (name : List ℕ) (values : List (List ℕ))
    → map trimmed_pair (map (λ value. (name, value)) values) ≡ map (λ value. (name, value)) (map trim values)
values_trimmed name [] = refl
values_trimmed name (value ∷ values) = ap (λ (pairs : List Pair). (name, trim value) ∷ pairs) (values_trimmed name values)

pairs_trimmed : (headers : Headers) → map trimmed_pair (pairs_of headers) ≡ pairs_of (trimmed headers)
pairs_trimmed [] = refl
pairs_trimmed (field ∷ fields) =
    map_over trimmed_pair (map (λ value. (field.0, value)) field.1) (pairs_of fields)
    ∙ ap (λ (pairs : List Pair). pairs ++ map trimmed_pair (pairs_of fields)) (values_trimmed field.0 field.1)
    ∙ ap (λ (pairs : List Pair). map (λ value. (field.0, value)) (map trim field.1) ++ pairs) (pairs_trimmed fields)

text_append : (xs ys : List Pair) → pairs_text (xs ++ ys) ≡ pairs_text xs ++ pairs_text ys
text_append [] ys = refl
text_append (x ∷ xs) ys =
    ap (λ text. written.value_line x.0 x.1 ++ text) (text_append xs ys) ∙ sym (append_assoc (written.value_line x.0 x.1) (pairs_text xs) (pairs_text ys))

field_text : (name : List ℕ) (values : List (List ℕ)) → flat_map (written.value_line name) values ≡ pairs_text (map (λ value. (name, value)) values)
field_text name [] = refl
field_text name (value ∷ values) = ap (λ text. written.value_line name value ++ text) (field_text name values)

lines_text : (headers : Headers) → written.lines_of headers ≡ pairs_text (pairs_of headers)
lines_text [] = refl
lines_text (field ∷ fields) =
    ap (λ text. text ++ written.lines_of fields) (field_text field.0 field.1)
    ∙ ap (λ text. pairs_text (map (λ value. (field.0, value)) field.1) ++ text) (lines_text fields)
    ∙ sym (text_append (map (λ value. (field.0, value)) field.1) (pairs_of fields))

-- ---- the block

abbrev version : List ℕ
version = codes "NATS/1.0"

version_parts : (version end lines : List ℕ) → version ++ end ++ lines ++ end ≡ version ++ (end ++ (lines ++ end))
version_parts version end lines = simp append_assoc

block_parts : (headers : Headers) → written.block_text headers ≡ version ++ 13 ∷ 10 ∷ behind (pairs_of headers)
block_parts headers =
    version_parts version (13 ∷ 10 ∷ []) (written.lines_of headers)
    ∙ ap (λ text. version ++ 13 ∷ 10 ∷ (text ++ 13 ∷ 10 ∷ [])) (lines_text headers)

end_utf8 : IsUtf8 (13 ∷ 10 ∷ [])
end_utf8 = small_utf8 (13 ∷ 10 ∷ []) (lit< tt, (lit< tt, tt))

colon_utf8 : IsUtf8 (58 ∷ 32 ∷ [])
colon_utf8 = small_utf8 (58 ∷ 32 ∷ []) (lit< tt, (lit< tt, tt))

version_utf8 : IsUtf8 version
version_utf8 = small_utf8 version (lit< tt, (lit< tt, (lit< tt, (lit< tt, (lit< tt, (lit< tt, (lit< tt, (lit< tt, tt))))))))

pairs_utf8 : (pairs : List Pair) → ArePairs pairs → IsUtf8 (behind pairs)
pairs_utf8 [] are = end_utf8
pairs_utf8 (pair ∷ pairs) are =
    let line = value_parts pair.0 (codes ": ") pair.1 (13 ∷ 10 ∷ []) (pairs_text pairs) (13 ∷ 10 ∷ []) in
    let whole : IsUtf8 (line_of_pair pair ++ 13 ∷ 10 ∷ behind pairs) =
    IsUtf8-append (line_of_pair pair) (13 ∷ 10 ∷ behind pairs)
    (IsUtf8-append pair.0 (58 ∷ 32 ∷ pair.1) (small_utf8 pair.0 (name_small pair.0 are.0.0)) (IsUtf8-append (58 ∷ 32 ∷ []) pair.1 colon_utf8 (IsUtf8-from_is_utf8 pair.1 are.0.1)))
    (IsUtf8-append (13 ∷ 10 ∷ []) (behind pairs) end_utf8 (pairs_utf8 pairs are.1)) in
    rw line whole

version_read : head_of version ≡ Some (record { status = None; description = None })
unfolding trim_start trim_end chars
version_read = refl

abbrev plain_block : Headers → Block
plain_block headers = record { status = None; description = None; headers = headers }

-- the block of some headers is read as these headers, their values trimmed
pub block_back : (headers : Headers) → AreHeaders headers → block_of (written.block_text headers) ≡ Some (plain_block (trimmed headers))
block_back headers are =
    let pairs = pairs_of headers in
    let good : ArePairs pairs = are_pairs headers are.1 are.2 in
    let text = version ++ 13 ∷ 10 ∷ behind pairs in
    let utf8 : IsUtf8 text =
    IsUtf8-append version (13 ∷ 10 ∷ behind pairs) version_utf8 (IsUtf8-append (13 ∷ 10 ∷ []) (behind pairs) end_utf8 (pairs_utf8 pairs good)) in
    let keys : IsDistinct bytes_eq (keys_of (trimmed headers)) = rw (same_keys headers) (are.0) in
    let back : all_appended [] (map trimmed_pair pairs) ≡ trimmed headers =
    ap (all_appended []) (pairs_trimmed headers) ∙ map_back (trimmed headers) (have_values headers are.1) keys in
    ap block_of (block_parts headers)
    ∙ spelled_by_text text text refl utf8
    ∙ ap block_of_lines (line_first version (behind pairs) (refl, (refl, (refl, (refl, (refl, (refl, (refl, (refl, tt)))))))))
    ∙ ap (λ head. block_with head (option_map (all_appended []) (fields_from false (lines (behind pairs))))) version_read
    ∙ ap (λ fields. block_with (Some (record { status = None; description = None })) (option_map (all_appended []) fields)) (pairs_read false pairs good)
    ∙ ap (λ headers. Some (plain_block headers)) back

abbrev pub unanswered_block : Block
unanswered_block = record { status = Some 503; description = None; headers = [] }

-- the block which says that nobody answers
pub unanswered_back : block_of no_responders ≡ Some unanswered_block
unfolding block_of is_utf8 trim_start trim_end chars encode_utf8
unanswered_back = refl
