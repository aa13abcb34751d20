-- The pairs of a header map, appended in order, are the map.
use Rattle.std.proofs.Common.{◌≡◌, ℕ, ◌<◌, Bool, true, false, List, [], ◌∷◌, ◌++◌, length, map, refl, ap, sym, ◌∙◌, arith, append_assoc}
use Rattle.std.specs.List.{IsDistinct, AllByRecursion}
use Rattle.std.specs.Map.{keys_of}
use Rattle.std.specs.Str.{bytes_eq}
use Rattle.std.proofs.lemmas.List.{append-nil}
use Rattle.std.specs.Cmp.Lexicographic.{nat_list_eq_equiv}
use Rattle.nats_header.specs.Headers.{Field, Headers, values_of, with_values, appended}
use Rattle.nats_block.specs.Fields.{Pair, with_field, all_appended}
use Rattle.nats_server_text.proofs.Cuts.{if_true, if_false}

same_name : (name : List ℕ) → bytes_eq name name ≡ true
same_name name = nat_list_eq_equiv.refl name

other_name : (a b : List ℕ) → bytes_eq a b ≡ false → bytes_eq b a ≡ false
other_name a b is = sym (nat_list_eq_equiv.symm a b) ∙ is

-- ---- headers, value by value

abbrev pub HaveValues : Headers → Type 0
HaveValues [] = Unit {0}
HaveValues (field ∷ fields) = (0 < length field.1) × HaveValues fields

abbrev pub pairs_of : Headers → List Pair
pairs_of [] = []
pairs_of (field ∷ fields) = map (λ value. (field.0, value)) field.1 ++ pairs_of fields

-- a name that none of the headers has
abbrev Apart : List ℕ → Headers → Type 0
Apart name [] = Unit {0}
Apart name (field ∷ fields) = (bytes_eq name field.0 ≡ false) × Apart name fields

values_none : (name : List ℕ) (done : Headers) → Apart name done → values_of done name ≡ []
values_none name [] is = refl
values_none name (field ∷ done) is = if_false (bytes_eq name field.0) field.1 (values_of done name) is.0 ∙ values_none name done is.1

with_none : (name : List ℕ) (new : List (List ℕ)) (done : Headers) → Apart name done → with_values done name new ≡ done ++ (name, new) ∷ []
with_none name new [] is = refl
with_none name new (field ∷ done) is =
    if_false (bytes_eq name field.0) ((field.0, new) ∷ done) (field ∷ with_values done name new) is.0
    ∙ ap (λ (more : Headers). field ∷ more) (with_none name new done is.1)

values_last : (name : List ℕ) (old : List (List ℕ)) (done : Headers) → Apart name done → values_of (done ++ (name, old) ∷ []) name ≡ old
values_last name old [] is = if_true (bytes_eq name name) old [] (same_name name)
values_last name old (field ∷ done) is =
    if_false (bytes_eq name field.0) field.1 (values_of (done ++ (name, old) ∷ []) name) is.0 ∙ values_last name old done is.1

with_last : (name : List ℕ) (old new : List (List ℕ)) (done : Headers) → Apart name done
    → with_values (done ++ (name, old) ∷ []) name new ≡ done ++ (name, new) ∷ []
with_last name old new [] is = if_true (bytes_eq name name) ((name, new) ∷ []) ((name, old) ∷ (name, new) ∷ []) (same_name name)
with_last name old new (field ∷ done) is =
    if_false (bytes_eq name field.0) ((field.0, new) ∷ (done ++ (name, old) ∷ [])) (field ∷ with_values (done ++ (name, old) ∷ []) name new) is.0
    ∙ ap (λ (more : Headers). field ∷ more) (with_last name old new done is.1)

all_append : (headers : Headers) (xs ys : List Pair) → all_appended headers (xs ++ ys) ≡ all_appended (all_appended headers xs) ys
all_append headers [] ys = refl
all_append headers (x ∷ xs) ys = all_append (with_field headers x) xs ys

values_all : (name : List ℕ) (done : Headers) (old new : List (List ℕ)) → Apart name done
    → all_appended (done ++ (name, old) ∷ []) (map (λ value. (name, value)) new) ≡ done ++ (name, old ++ new) ∷ []
values_all name done old [] is = ap (λ values. done ++ (name, values) ∷ []) (sym (append-nil old))
values_all name done old (value ∷ new) is =
    let first : appended (done ++ (name, old) ∷ []) name value ≡ done ++ (name, old ++ value ∷ []) ∷ [] =
    ap (λ values. with_values (done ++ (name, old) ∷ []) name (values ++ value ∷ [])) (values_last name old done is)
    ∙ with_last name old (old ++ value ∷ []) done is in
    ap (λ (headers : Headers). all_appended headers (map (λ value. (name, value)) new)) first
    ∙ values_all name done (old ++ value ∷ []) new is
    ∙ ap (λ values. done ++ (name, values) ∷ []) (append_assoc old (value ∷ []) new)

field_all : (name : List ℕ) (done : Headers) (values : List (List ℕ)) → 0 < length values → Apart name done
    → all_appended done (map (λ value. (name, value)) values) ≡ done ++ (name, values) ∷ []
field_all name done [] some is = absurd (omega (arith, some))
field_all name done (value ∷ values) some is =
    let first : appended done name value ≡ done ++ (name, value ∷ []) ∷ [] =
    ap (λ old. with_values done name (old ++ value ∷ [])) (values_none name done is) ∙ with_none name (value ∷ []) done is in
    ap (λ (headers : Headers). all_appended headers (map (λ value. (name, value)) values)) first
    ∙ values_all name done (value ∷ []) values is

abbrev EachApart : Headers → Headers → Type 0
EachApart [] done = Unit {0}
EachApart (field ∷ fields) done = Apart field.0 done × EachApart fields done

apart_more : (name : List ℕ) (done : Headers) (field : Field) → Apart name done → bytes_eq name field.0 ≡ false → Apart name (done ++ field ∷ [])
apart_more name [] field is other = (other, tt)
apart_more name (first ∷ done) field is other = (is.0, apart_more name done field is.1 other)

each_more : (fields done : Headers) (field : Field) → EachApart fields done → AllByRecursion (λ y. bytes_eq field.0 y ≡ false) (keys_of fields)
    → EachApart fields (done ++ field ∷ [])
each_more [] done field is others = tt
each_more (first ∷ fields) done field is others =
    (apart_more first.0 done field is.0 (other_name field.0 first.0 others.0), each_more fields done field is.1 others.1)

headers_all : (done fields : Headers) → HaveValues fields → EachApart fields done → IsDistinct bytes_eq (keys_of fields)
    → all_appended done (pairs_of fields) ≡ done ++ fields
unfolding IsDistinct
headers_all done [] are apart distinct = sym (append-nil done)
headers_all done (field ∷ fields) are apart distinct =
    let first : all_appended done (map (λ value. (field.0, value)) field.1) ≡ done ++ field ∷ [] =
    field_all field.0 done field.1 are.0 apart.0 in
    all_append done (map (λ value. (field.0, value)) field.1) (pairs_of fields)
    ∙ ap (λ (headers : Headers). all_appended headers (pairs_of fields)) first
    ∙ headers_all (done ++ field ∷ []) fields are.1 (each_more fields done field apart.1 distinct.0) distinct.1
    ∙ append_assoc done (field ∷ []) fields

none_apart : (fields : Headers) → EachApart fields []
none_apart [] = tt
none_apart (field ∷ fields) = (tt, none_apart fields)

pub map_back : (headers : Headers) → HaveValues headers → IsDistinct bytes_eq (keys_of headers) → all_appended [] (pairs_of headers) ≡ headers
map_back headers are distinct = headers_all [] headers are (none_apart headers) distinct
