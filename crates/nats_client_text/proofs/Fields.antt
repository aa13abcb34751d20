-- A header block that is written is read back.
use Rattle.std.proofs.Common.{◌≡◌, ℕ, ◌+◌, ◌<◌, Bool, true, false, not, List, [], ◌∷◌, ◌++◌, length, take, drop, map, Some, None, option_map, refl, ap, sym, ◌∙◌, arith, tests, lit<, append_assoc, length-append}
use Rattle.std.specs.Prelude.{◌==◌, ◌&&◌, nat_lt, if◌then◌else◌, codes}
use Rattle.std.specs.List.{list_all, flat_map, position_or_len, IsDistinct, AllByRecursion}
use Rattle.std.specs.Map.{keys_of}
use Rattle.std.specs.Str.{is_utf8, IsUtf8, bytes_eq}
use Rattle.std.proofs.Math.Seq.{take-append_seam, drop-append-add}
use Rattle.std.proofs.lemmas.List.{append-nil}
use Rattle.std.proofs.lemmas.Bool.{lt-ltb}
use Rattle.std.proofs.lemmas.Str.{IsUtf8-from_is_utf8, IsUtf8-append}
use Rattle.std.specs.Cmp.Lexicographic.{nat_list_eq_equiv}
use Rattle.nats_header.specs.Names.{is_name_byte, is_header_name, ends_line, is_header_value}
use Rattle.nats_header.specs.Headers.{Field, Headers, values_of, with_values, appended, is_field, are_fields}
use Rattle.nats_header.specs.Block as written
use Rattle.nats_block.specs.Lines.{cut_at}
use Rattle.nats_block.specs.Fields.{Pair, tested, with_field, all_appended, onto_fields}
use Rattle.nats_client_text.specs.Blocks.{lines_of, field_cut, field_of, ended_by, fields_of, headers_of, block_of}
use Rattle.nats_client_text.specs.Law.{AreTexts, HaveTexts, AreHeaders}
use Rattle.nats_client_text.proofs.Blocks.{lines_by_cut, block_read}
use Rattle.nats_client_text.proofs.Lines.{field_of_utf8}
use Rattle.nats_client_text.proofs.Spaced.{NoReturn, no_return_append, cut_clean, AreSmall, small_utf8}

if_true : {A : Type 0} (test : Bool) (a b : A) → test ≡ true → (if test then a else b) ≡ a
if_true true a b is = refl
if_true false a b is = cc

if_false : {A : Type 0} (test : Bool) (a b : A) → test ≡ false → (if test then a else b) ≡ b
if_false true a b is = cc
if_false false a b is = refl

same_name : (name : List ℕ) → bytes_eq name name ≡ true
same_name name = nat_list_eq_equiv.refl name

other_name : (a b : List ℕ) → bytes_eq a b ≡ false → bytes_eq b a ≡ false
other_name a b is = sym (nat_list_eq_equiv.symm a b) ∙ is

both : (a b : Bool) → (a && b) ≡ true → (a ≡ true) × (b ≡ true)
both true true is = (refl, refl)
both true false is = cc
both false b is = cc

-- ---- headers, value by value

-- values of a header
abbrev AreValues : List (List ℕ) → Type 0
AreValues [] = Unit {0}
AreValues (value ∷ values) = ((is_utf8 value ≡ true) × (is_header_value value ≡ true)) × AreValues values

-- fields, each a name with one or more values
abbrev AreFields : Headers → Type 0
AreFields [] = Unit {0}
AreFields (field ∷ fields) =
    ((is_header_name field.0 ≡ true) × (0 < length field.1) × AreValues field.1) × AreFields fields

values_are : (values : List (List ℕ)) → list_all is_header_value values ≡ true → AreTexts values → AreValues values
values_are [] is are = tt
values_are (value ∷ values) is are =
    let parts = both (is_header_value value) (list_all is_header_value values) is in
    ((are.0, parts.0), values_are values parts.1 are.1)

has_value : (values : List (List ℕ)) → not (length values == 0) ≡ true → 0 < length values
has_value [] is = cc
has_value (value ∷ values) is = omega arith

fields_are : (headers : Headers) → are_fields headers ≡ true → HaveTexts headers → AreFields headers
fields_are [] is are = tt
fields_are (field ∷ fields) is are =
    let parts = both (is_field field) (are_fields fields) is in
    let of_field = both (is_header_name field.0 && not (length field.1 == 0)) (list_all is_header_value field.1) parts.0 in
    let named = both (is_header_name field.0) (not (length field.1 == 0)) of_field.0 in
    ((named.0, has_value field.1 named.1, values_are field.1 of_field.1 are.0), fields_are fields parts.1 are.1)

abbrev pairs_of : Headers → List Pair
pairs_of [] = []
pairs_of (field ∷ fields) = map (λ value. (field.0, value)) field.1 ++ pairs_of fields

-- a name that none of the headers has
abbrev Apart : List ℕ → Headers → Type 0
Apart name [] = Unit {0}
Apart name (field ∷ fields) = (bytes_eq name field.0 ≡ false) × Apart name fields

values_none : (name : List ℕ) (done : Headers) → Apart name done → values_of done name ≡ []
values_none name [] is = refl
values_none name (field ∷ done) is = if_false (bytes_eq name field.0) field.1 (values_of done name) is.0 ∙ values_none name done is.1

with_none : (name : List ℕ) (new : List (List ℕ)) (done : Headers) → Apart name done → with_values done name new ≡ done ++ (name, new) ∷ []
with_none name new [] is = refl
with_none name new (field ∷ done) is =
    if_false (bytes_eq name field.0) ((field.0, new) ∷ done) (field ∷ with_values done name new) is.0
    ∙ ap (λ (more : Headers). field ∷ more) (with_none name new done is.1)

values_last : (name : List ℕ) (old : List (List ℕ)) (done : Headers) → Apart name done → values_of (done ++ (name, old) ∷ []) name ≡ old
values_last name old [] is = if_true (bytes_eq name name) old [] (same_name name)
values_last name old (field ∷ done) is =
    if_false (bytes_eq name field.0) field.1 (values_of (done ++ (name, old) ∷ []) name) is.0 ∙ values_last name old done is.1

with_last : (name : List ℕ) (old new : List (List ℕ)) (done : Headers) → Apart name done
    → with_values (done ++ (name, old) ∷ []) name new ≡ done ++ (name, new) ∷ []
with_last name old new [] is = if_true (bytes_eq name name) ((name, new) ∷ []) ((name, old) ∷ (name, new) ∷ []) (same_name name)
with_last name old new (field ∷ done) is =
    if_false (bytes_eq name field.0) ((field.0, new) ∷ (done ++ (name, old) ∷ [])) (field ∷ with_values (done ++ (name, old) ∷ []) name new) is.0
    ∙ ap (λ (more : Headers). field ∷ more) (with_last name old new done is.1)

all_append : (headers : Headers) (xs ys : List Pair) → all_appended headers (xs ++ ys) ≡ all_appended (all_appended headers xs) ys
all_append headers [] ys = refl
all_append headers (x ∷ xs) ys = all_append (with_field headers x) xs ys

values_all : (name : List ℕ) (done : Headers) (old new : List (List ℕ)) → Apart name done
    → all_appended (done ++ (name, old) ∷ []) (map (λ value. (name, value)) new) ≡ done ++ (name, old ++ new) ∷ []
values_all name done old [] is = ap (λ values. done ++ (name, values) ∷ []) (sym (append-nil old))
values_all name done old (value ∷ new) is =
    let first : appended (done ++ (name, old) ∷ []) name value ≡ done ++ (name, old ++ value ∷ []) ∷ [] =
    ap (λ values. with_values (done ++ (name, old) ∷ []) name (values ++ value ∷ [])) (values_last name old done is)
    ∙ with_last name old (old ++ value ∷ []) done is in
    ap (λ (headers : Headers). all_appended headers (map (λ value. (name, value)) new)) first
    ∙ values_all name done (old ++ value ∷ []) new is
    ∙ ap (λ values. done ++ (name, values) ∷ []) (append_assoc old (value ∷ []) new)

field_all : (name : List ℕ) (done : Headers) (values : List (List ℕ)) → 0 < length values → Apart name done
    → all_appended done (map (λ value. (name, value)) values) ≡ done ++ (name, values) ∷ []
field_all name done [] some is = absurd (omega (arith, some))
field_all name done (value ∷ values) some is =
    let first : appended done name value ≡ done ++ (name, value ∷ []) ∷ [] =
    ap (λ old. with_values done name (old ++ value ∷ [])) (values_none name done is) ∙ with_none name (value ∷ []) done is in
    ap (λ (headers : Headers). all_appended headers (map (λ value. (name, value)) values)) first
    ∙ values_all name done (value ∷ []) values is

abbrev EachApart : Headers → Headers → Type 0
EachApart [] done = Unit {0}
EachApart (field ∷ fields) done = Apart field.0 done × EachApart fields done

apart_more : (name : List ℕ) (done : Headers) (field : Field) → Apart name done → bytes_eq name field.0 ≡ false → Apart name (done ++ field ∷ [])
apart_more name [] field is other = (other, tt)
apart_more name (first ∷ done) field is other = (is.0, apart_more name done field is.1 other)

each_more : (fields done : Headers) (field : Field) → EachApart fields done → AllByRecursion (λ y. bytes_eq field.0 y ≡ false) (keys_of fields)
    → EachApart fields (done ++ field ∷ [])
each_more [] done field is others = tt
each_more (first ∷ fields) done field is others =
    (apart_more first.0 done field is.0 (other_name field.0 first.0 others.0), each_more fields done field is.1 others.1)

headers_all : (done fields : Headers) → AreFields fields → EachApart fields done → IsDistinct bytes_eq (keys_of fields)
    → all_appended done (pairs_of fields) ≡ done ++ fields
unfolding IsDistinct
headers_all done [] are apart distinct = sym (append-nil done)
headers_all done (field ∷ fields) are apart distinct =
    let first : all_appended done (map (λ value. (field.0, value)) field.1) ≡ done ++ field ∷ [] =
    field_all field.0 done field.1 are.0.1 apart.0 in
    all_append done (map (λ value. (field.0, value)) field.1) (pairs_of fields)
    ∙ ap (λ (headers : Headers). all_appended headers (pairs_of fields)) first
    ∙ headers_all (done ++ field ∷ []) fields are.1 (each_more fields done field apart.1 distinct.0) distinct.1
    ∙ append_assoc done (field ∷ []) fields

none_apart : (fields : Headers) → EachApart fields []
none_apart [] = tt
none_apart (field ∷ fields) = (tt, none_apart fields)

-- ---- the lines

abbrev IsPair : Pair → Type 0
IsPair pair = (is_header_name pair.0 ≡ true) × (is_utf8 pair.1 ≡ true) × (is_header_value pair.1 ≡ true)

abbrev ArePairs : List Pair → Type 0
ArePairs [] = Unit {0}
ArePairs (pair ∷ pairs) = IsPair pair × ArePairs pairs

are_append : (xs ys : List Pair) → ArePairs xs → ArePairs ys → ArePairs (xs ++ ys)
are_append [] ys is are = are
are_append (x ∷ xs) ys is are = (is.0, are_append xs ys is.1 are)

are_named : (name : List ℕ) (values : List (List ℕ)) → is_header_name name ≡ true → AreValues values → ArePairs (map (λ value. (name, value)) values)
are_named name [] is are = tt
are_named name (value ∷ values) is are = ((is, are.0.0, are.0.1), are_named name values is are.1)

are_pairs : (headers : Headers) → AreFields headers → ArePairs (pairs_of headers)
are_pairs [] are = tt
are_pairs (field ∷ fields) are =
    are_append (map (λ value. (field.0, value)) field.1) (pairs_of fields) (are_named field.0 field.1 are.0.0 are.0.2) (are_pairs fields are.1)

name_byte : (b : ℕ) → is_name_byte b ≡ true → ((b == 13) ≡ false) × ((b == 58) ≡ false) × (b < 128)
name_byte b is = (grind (arith, tests), grind (arith, tests), grind (arith, tests))

value_byte : (b : ℕ) → not (ends_line b) ≡ true → (b == 13) ≡ false
value_byte b is = grind (arith, tests)

name_small : (name : List ℕ) → is_header_name name ≡ true → AreSmall name
name_small [] is = tt
name_small (b ∷ name) is =
    let parts = both (is_name_byte b) (list_all is_name_byte name) is in
    ((name_byte b parts.0).2, name_small name parts.1)

name_no_return : (name : List ℕ) → is_header_name name ≡ true → NoReturn name
name_no_return [] is = tt
name_no_return (b ∷ name) is =
    let parts = both (is_name_byte b) (list_all is_name_byte name) is in
    ((name_byte b parts.0).0, name_no_return name parts.1)

value_no_return : (value : List ℕ) → is_header_value value ≡ true → NoReturn value
value_no_return [] is = tt
value_no_return (b ∷ value) is =
    let parts = both (not (ends_line b)) (list_all (λ b. not (ends_line b)) value) is in
    (value_byte b parts.0, value_no_return value parts.1)

next_position : (test : Bool) (n : ℕ) (b : ℕ) (rest : List ℕ) → (b == 58) ≡ test → test ≡ false → position_or_len (λ b. b == 58) rest ≡ n
    → position_or_len (λ b. b == 58) (b ∷ rest) ≡ 1 + n
next_position true n b rest is never same = cc
next_position false n b rest is never same = rw is (ap (λ m. 1 + m) same)

colon_at : (name rest : List ℕ) → is_header_name name ≡ true → position_or_len (λ b. b == 58) (name ++ 58 ∷ rest) ≡ length name
colon_at [] rest is = refl
colon_at (b ∷ name) rest is =
    let parts = both (is_name_byte b) (list_all is_name_byte name) is in
    next_position (b == 58) (length name) b (name ++ 58 ∷ rest) refl (name_byte b parts.0).1 (colon_at name rest parts.1) ∙ omega arith

cut_found : (text name rest : List ℕ) (n : ℕ) → position_or_len (λ b. b == 58) text ≡ n → n < length text → take n text ≡ name → drop (n + 1) text ≡ rest
    → cut_at 58 text ≡ Some (name, rest)
cut_found text name rest n at inside front behind =
    rw at (if_true (nat_lt n (length text)) (Some (take n text, drop (n + 1) text)) None (lt-ltb _ _ inside) ∙ rw (front, behind) refl)

cut_name : (name rest : List ℕ) → is_header_name name ≡ true → cut_at 58 (name ++ 58 ∷ rest) ≡ Some (name, rest)
cut_name name rest is =
    cut_found (name ++ 58 ∷ rest) name rest (length name) (colon_at name rest is) (omega (arith, length-append name (58 ∷ rest))) (take-append_seam name (58 ∷ rest)) (drop-append-add name (58 ∷ rest) 1)

abbrev line_of_pair : Pair → List ℕ
line_of_pair pair = pair.0 ++ 58 ∷ 32 ∷ pair.1

colon_utf8 : IsUtf8 (58 ∷ 32 ∷ [])
colon_utf8 = IsUtf8-from_is_utf8 (58 ∷ 32 ∷ []) (small_utf8 (58 ∷ 32 ∷ []) (lit< tt, (lit< tt, tt)))

pair_utf8 : (pair : Pair) → IsPair pair → IsUtf8 (line_of_pair pair)
pair_utf8 pair is =
    IsUtf8-append pair.0 (58 ∷ 32 ∷ pair.1) (IsUtf8-from_is_utf8 pair.0 (small_utf8 pair.0 (name_small pair.0 is.0)))
    (IsUtf8-append (58 ∷ 32 ∷ []) pair.1 colon_utf8 (IsUtf8-from_is_utf8 pair.1 is.1))

tested_pair : (pair : Pair) → IsPair pair → tested (pair.0, pair.1) ≡ Some pair
tested_pair pair is = rw (is.0, is.2) refl

field_read : (pair : Pair) → IsPair pair → field_of (line_of_pair pair) ≡ Some pair
field_read pair is =
    let line = line_of_pair pair in
    field_of_utf8 line line refl (pair_utf8 pair is)
    ∙ ap field_cut (cut_name pair.0 (32 ∷ pair.1) is.0) ∙ tested_pair pair is

line_first : (line rest : List ℕ) → NoReturn line → lines_of (line ++ 13 ∷ 10 ∷ rest) ≡ line ∷ lines_of rest
line_first line rest is =
    sym (lines_by_cut (line ++ 13 ∷ 10 ∷ rest) (Some (record { line = line; rest = rest })) (sym (cut_clean line rest is)))

pair_no_return : (pair : Pair) → IsPair pair → NoReturn (line_of_pair pair)
pair_no_return pair is =
    no_return_append pair.0 (58 ∷ 32 ∷ pair.1) (name_no_return pair.0 is.0) (refl, (refl, value_no_return pair.1 is.2))

abbrev pairs_text : List Pair → List ℕ
pairs_text [] = []
pairs_text (pair ∷ pairs) = written.value_line pair.0 pair.1 ++ pairs_text pairs

value_parts : (name colon value end : List ℕ) (rest behind : List ℕ)
    → (name ++ colon ++ value ++ end ++ rest) ++ behind ≡ (name ++ (colon ++ value)) ++ (end ++ (rest ++ behind))
value_parts name colon value end rest behind = simp append_assoc

not_empty : (name rest : List ℕ) (c : ℕ) → (length (name ++ c ∷ rest) == 0) ≡ false
not_empty [] rest c = grind (arith, tests)
not_empty (b ∷ name) rest c = grind (arith, tests)

pairs_read : (pairs : List Pair) → ArePairs pairs → fields_of (lines_of (pairs_text pairs ++ 13 ∷ 10 ∷ [])) ≡ Some pairs
pairs_read [] are = refl
pairs_read (pair ∷ pairs) are =
    let line = line_of_pair pair in
    let rest = pairs_text pairs ++ 13 ∷ 10 ∷ [] in
    ap (λ text. fields_of (lines_of text)) (value_parts pair.0 (codes ": ") pair.1 (13 ∷ 10 ∷ []) (pairs_text pairs) (13 ∷ 10 ∷ []))
    ∙ ap fields_of (line_first line rest (pair_no_return pair are.0))
    ∙ if_false (length line == 0) (ended_by (lines_of rest)) (onto_fields (field_of line) (fields_of (lines_of rest))) (not_empty pair.0 (32 ∷ pair.1) 58)
    ∙ ap (λ field. onto_fields field (fields_of (lines_of rest))) (field_read pair are.0)
    ∙ ap (onto_fields (Some pair)) (pairs_read pairs are.1)

text_append : (xs ys : List Pair) → pairs_text (xs ++ ys) ≡ pairs_text xs ++ pairs_text ys
text_append [] ys = refl
text_append (x ∷ xs) ys =
    ap (λ text. written.value_line x.0 x.1 ++ text) (text_append xs ys) ∙ sym (append_assoc (written.value_line x.0 x.1) (pairs_text xs) (pairs_text ys))

field_text : (name : List ℕ) (values : List (List ℕ)) → flat_map (written.value_line name) values ≡ pairs_text (map (λ value. (name, value)) values)
field_text name [] = refl
field_text name (value ∷ values) = ap (λ text. written.value_line name value ++ text) (field_text name values)

lines_text : (headers : Headers) → written.lines_of headers ≡ pairs_text (pairs_of headers)
lines_text [] = refl
lines_text (field ∷ fields) =
    ap (λ text. text ++ written.lines_of fields) (field_text field.0 field.1)
    ∙ ap (λ text. pairs_text (map (λ value. (field.0, value)) field.1) ++ text) (lines_text fields)
    ∙ sym (text_append (map (λ value. (field.0, value)) field.1) (pairs_of fields))

version_parts : (version end lines : List ℕ) → version ++ end ++ lines ++ end ≡ version ++ (end ++ (lines ++ end))
version_parts version end lines = simp append_assoc

-- the block of some headers is read as these headers
pub block_back : (headers : Headers) → AreHeaders headers → block_of (written.block_text headers) ≡ Some headers
block_back headers are =
    let fields = fields_are headers are.1 are.2 in
    let rest = written.lines_of headers ++ 13 ∷ 10 ∷ [] in
    let version : List ℕ = codes "NATS/1.0" in
    let text : written.block_text headers ≡ version ++ 13 ∷ 10 ∷ rest = version_parts version (13 ∷ 10 ∷ []) (written.lines_of headers) in
    let first : lines_of (version ++ 13 ∷ 10 ∷ rest) ≡ version ∷ lines_of rest = line_first version rest (refl, (refl, (refl, (refl, (refl, (refl, (refl, (refl, tt)))))))) in
    ap block_of text
    ∙ block_read (version ++ 13 ∷ 10 ∷ rest) version rest (sym first) refl
    ∙ ap (λ text. headers_of (lines_of (text ++ 13 ∷ 10 ∷ []))) (lines_text headers)
    ∙ ap (option_map (all_appended [])) (pairs_read (pairs_of headers) (are_pairs headers fields))
    ∙ ap Some (headers_all [] headers fields (none_apart headers) are.0)
