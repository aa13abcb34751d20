-- A map is read back from its JSON: the same names, in the order of their bytes, each with the same values.
use Rattle.std.proofs.Common.{◌≡◌, ℕ, ◌==◌, not, Bool, true, false, ◌&&◌, cond, List, [], ◌∷◌, map, fold, length, Option, Some, None, refl, ap, sym, subst, ◌∙◌, Ordering, Less, Equal, Greater, nat_cmp, is_eq, codes}
use Rattle.std.specs.Prelude.{option_and_then}
use Rattle.std.specs.Option.{option_or, option_eq}
use Rattle.std.specs.Ordering.{match_ordering}
use Rattle.std.specs.Str.{bytes_eq}
use Rattle.std.specs.List.{list_all, AllByRecursion, IsDistinct}
use Rattle.std.specs.Map.{keys_of, lookup}
use Rattle.std.specs.Cmp.Lexicographic.{slice_cmp, pointwise, lists_equiv, nat_list_eq_equiv, bytes_decides}
use Rattle.std.specs.HashMap.{HashMap}
use Rattle.std.specs.HashMap.Eq.{hash_map_eq_from_get}
use Rattle.std.proofs.lemmas.Bool.{true≢false}
use Rattle.std.proofs.lemmas.Map.Text.{is_eq-slice_cmp}
use Rattle.indexmap.specs.Layout.{hash_map}
use Rattle.serde_json.specs.Data.{Data, null, boolean, number, string, array, object, Members, no_members, member, put}
use Rattle.serde_json.specs.Find.{get_member}
use Rattle.serde_json.specs.View.{items_of}
use Rattle.nats_header.specs.Names.{is_header_name, is_header_value}
use Rattle.nats_header.specs.Headers.{Field, Headers, AreDistinct, is_field, are_fields, same_headers}
use Rattle.nats_header.specs.Json.{if_value, field_with, field_in, some_values_in, values_in, fields_in, direct_in, headers_in, values_json, put_field, headers_json, ReadsAs}
use Rattle.nats_header.proofs.Laws.{cond_true, same_self, first_of_both, second_of_both}

-- each member is the field at its place
abbrev Told : Members → Headers → Type 0
Told no_members [] = Unit {0}
Told no_members (field ∷ fields) = ⊥
Told (member key json more) [] = ⊥
Told (member key json more) (field ∷ fields) = (key ≡ field.0) × (field_in key json ≡ Some field) × Told more fields

told_fields : (more : Members) (fields : Headers) → Told more fields → fields_in more ≡ Some fields
told_fields no_members [] told = refl
told_fields no_members (field ∷ fields) told = absurd told
told_fields (member key json more) [] told = absurd told
told_fields (member key json more) (field ∷ fields) told = rw (told.1, told_fields more fields told.2) refl

-- ---- a field is placed among others by its name

abbrev placed : Field → Headers → Headers
placed field [] = field ∷ []
placed field (first ∷ fields) =
    match_ordering (slice_cmp nat_cmp field.0 first.0) (field ∷ first ∷ fields) (field ∷ fields) (first ∷ placed field fields)

abbrev all_placed : Headers → Headers → Headers
all_placed so_far fields = fold (λ so_far field. placed field so_far) so_far fields

same_from_equal : (one other : List ℕ) → slice_cmp nat_cmp one other ≡ Equal → one ≡ other
same_from_equal one other is = (bytes_decides one other).0 (sym (is_eq-slice_cmp one other) ∙ ap is_eq is)

told_put_at : (o : Ordering) (key other : List ℕ) (json first_json : Data) (more : Members) (field first : Field) (fields : Headers)
    → slice_cmp nat_cmp key other ≡ o → key ≡ field.0 → field_in key json ≡ Some field
    → Told (member other first_json more) (first ∷ fields) → Told (put key json more) (placed field fields)
    → Told (match_ordering o (member key json (member other first_json more)) (member other json more) (member other first_json (put key json more)))
    (match_ordering o (field ∷ first ∷ fields) (field ∷ fields) (first ∷ placed field fields))
told_put_at Less key other json first_json more field first fields is named read told later = (named, read, told)
told_put_at Equal key other json first_json more field first fields is named read told later =
    let same = same_from_equal key other is in
    (sym same ∙ named, ap (λ k. field_in k json) (sym same) ∙ read, told.2)
told_put_at Greater key other json first_json more field first fields is named read told later = (told.0, told.1, later)

told_put : (key : List ℕ) (json : Data) (more : Members) (field : Field) (fields : Headers) → key ≡ field.0 → field_in key json ≡ Some field
    → Told more fields → Told (put key json more) (placed field fields)
told_put key json no_members field [] named read told = (named, read, tt)
told_put key json no_members field (first ∷ fields) named read told = absurd told
told_put key json (member other first_json more) field [] named read told = absurd told
told_put key json (member other first_json more) field (first ∷ fields) named read told =
    let later = told_put key json more field fields named read told.2 in
    let order : slice_cmp nat_cmp key other ≡ slice_cmp nat_cmp field.0 first.0 = λ i. slice_cmp nat_cmp (named i) (told.0 i) in
    subst (λ o. Told (put key json (member other first_json more)) (match_ordering o (field ∷ first ∷ fields) (field ∷ fields) (first ∷ placed field fields))) order
    (told_put_at (slice_cmp nat_cmp key other) key other json first_json more field first fields refl named read told later)

-- ---- the JSON of a field is read as that field

values_back : (values : List (List ℕ)) → list_all is_header_value values ≡ true → values_in (items_of (map string values)) ≡ Some values
values_back [] valid = refl
values_back (value ∷ values) valid =
    let one : if_value value ≡ Some value = cond_true (is_header_value value) (Some value) None (first_of_both (is_header_value value) (list_all is_header_value values) valid) in
    rw (one, values_back values (second_of_both (is_header_value value) (list_all is_header_value values) valid)) refl

some_values_back : (values : List (List ℕ)) → not (length values == 0) ≡ true → list_all is_header_value values ≡ true → some_values_in (items_of (map string values)) ≡ Some values
some_values_back [] some valid = absurd (true≢false (sym some))
some_values_back (value ∷ values) some valid = values_back (value ∷ values) valid

field_back : (field : Field) → is_field field ≡ true → field_in field.0 (values_json field.1) ≡ Some field
field_back field valid =
    let front = first_of_both (is_header_name field.0 && not (length field.1 == 0)) (list_all is_header_value field.1) valid in
    let values = second_of_both (is_header_name field.0 && not (length field.1 == 0)) (list_all is_header_value field.1) valid in
    let name = first_of_both (is_header_name field.0) (not (length field.1 == 0)) front in
    let some = second_of_both (is_header_name field.0) (not (length field.1 == 0)) front in
    rw (cond_true (is_header_name field.0) (Some field.0) None name, some_values_back field.1 some values) refl

told_all : (fields so_far : Headers) (more : Members) → are_fields fields ≡ true → Told more so_far → Told (fold put_field more fields) (all_placed so_far fields)
told_all [] so_far more valid told = told
told_all (field ∷ fields) so_far more valid told =
    let read = field_back field (first_of_both (is_field field) (are_fields fields) valid) in
    told_all fields (placed field so_far) (put_field more field) (second_of_both (is_field field) (are_fields fields) valid)
    (told_put field.0 (values_json field.1) more field so_far refl read told)

-- ---- what is under `inner` is a list, not an object

no_object : (key : List ℕ) (json : Data) (field : Field) → field_in key json ≡ Some field → direct_in json ≡ None
no_object key null field read = refl
no_object key (boolean b) field read = refl
no_object key (number n) field read = refl
no_object key (string text) field read = refl
no_object key (array items) field read = refl
no_object key (object more) field read = absurd (never _ field read)
  where
    never : (name : Option (List ℕ)) (field : Field) → field_with name None ≡ Some field → ⊥
    never None field read = cc
    never (Some name) field read = cc

no_inner_at : (o : Ordering) (json : Data) (rest : Option Data) → direct_in json ≡ None → option_and_then direct_in rest ≡ None
    → option_and_then direct_in (match_ordering o rest (Some json) rest) ≡ None
no_inner_at Less json rest first later = later
no_inner_at Equal json rest first later = first
no_inner_at Greater json rest first later = later

no_inner : (key : List ℕ) (more : Members) (fields : Headers) → Told more fields → option_and_then direct_in (get_member key more) ≡ None
no_inner key no_members fields told = refl
no_inner key (member other json more) [] told = absurd told
no_inner key (member other json more) (field ∷ fields) told =
    no_inner_at (slice_cmp nat_cmp key other) json (get_member key more) (no_object other json field told.1) (no_inner key more fields told.2)

-- ---- each name has the same values

twice : {A : Type 0} (b : Bool) (x y z : A) → cond b x z ≡ cond b x (cond b y z)
twice true x y z = refl
twice false x y z = refl

swapped : {A : Type 0} (b d : Bool) (x y z : A) → (b ≡ true → d ≡ true → ⊥) → cond d y (cond b x z) ≡ cond b x (cond d y z)
swapped true true x y z never = absurd (never refl refl)
swapped true false x y z never = refl
swapped false true x y z never = refl
swapped false false x y z never = refl

not_equal : (o : Ordering) → o ≡ Greater → o ≡ Equal → ⊥
not_equal Less p q = cc
not_equal Equal p q = cc
not_equal Greater p q = cc

equal_self : (text : List ℕ) → is_eq (slice_cmp nat_cmp text text) ≡ true
equal_self text = is_eq-slice_cmp text text ∙ same_self text

greater_differs : (one other : List ℕ) → slice_cmp nat_cmp one other ≡ Greater → one ≡ other → ⊥
greater_differs one other is same =
    true≢false (sym (equal_self one) ∙ ap (λ text. is_eq (slice_cmp nat_cmp one text)) same ∙ ap is_eq is)

lookup_placed_at : (o : Ordering) (field first : Field) (fields : Headers) (name : List ℕ) → slice_cmp nat_cmp field.0 first.0 ≡ o
    → lookup (bytes_eq name) (placed field fields) ≡ cond (bytes_eq name field.0) (Some field.1) (lookup (bytes_eq name) fields)
    → lookup (bytes_eq name) (match_ordering o (field ∷ first ∷ fields) (field ∷ fields) (first ∷ placed field fields))
    ≡ cond (bytes_eq name field.0) (Some field.1) (lookup (bytes_eq name) (first ∷ fields))
lookup_placed_at Less field first fields name is rest = refl
lookup_placed_at Equal field first fields name is rest =
    let same = same_from_equal field.0 first.0 is in
    twice (bytes_eq name field.0) (Some field.1) (Some first.1) (lookup (bytes_eq name) fields)
    ∙ ap (λ text. cond (bytes_eq name field.0) (Some field.1) (cond (bytes_eq name text) (Some first.1) (lookup (bytes_eq name) fields))) same
lookup_placed_at Greater field first fields name is rest =
    let apart = λ (a : bytes_eq name field.0 ≡ true) (b : bytes_eq name first.0 ≡ true).
    greater_differs field.0 first.0 is (sym ((bytes_decides name field.0).0 a) ∙ (bytes_decides name first.0).0 b) in
    ap (λ r. cond (bytes_eq name first.0) (Some first.1) r) rest
    ∙ swapped (bytes_eq name field.0) (bytes_eq name first.0) (Some field.1) (Some first.1) (lookup (bytes_eq name) fields) apart

lookup_placed : (field : Field) (fields : Headers) (name : List ℕ) → lookup (bytes_eq name) (placed field fields) ≡ cond (bytes_eq name field.0) (Some field.1) (lookup (bytes_eq name) fields)
lookup_placed field [] name = refl
lookup_placed field (first ∷ fields) name =
    lookup_placed_at (slice_cmp nat_cmp field.0 first.0) field first fields name refl (lookup_placed field fields name)

lookup_none : (name : List ℕ) (fields : Headers) → AllByRecursion (λ other. bytes_eq name other ≡ false) (keys_of fields) → lookup (bytes_eq name) fields ≡ None
lookup_none name [] apart = refl
lookup_none name (field ∷ fields) apart = rw (apart.0) (lookup_none name fields apart.1)

all_step : (b : Bool) (field : Field) (name : List ℕ) (here before : Option (List (List ℕ))) → (b ≡ true → here ≡ None)
    → option_or here (cond b (Some field.1) before) ≡ option_or (cond b (Some field.1) here) before
all_step true field name here before none = rw (none refl) refl
all_step false field name here before none = refl

lookup_all : (fields so_far : Headers) (name : List ℕ) → IsDistinct bytes_eq (keys_of fields)
    → lookup (bytes_eq name) (all_placed so_far fields) ≡ option_or (lookup (bytes_eq name) fields) (lookup (bytes_eq name) so_far)
unfolding IsDistinct
lookup_all [] so_far name distinct = refl
lookup_all (field ∷ fields) so_far name distinct =
    let none = λ (is : bytes_eq name field.0 ≡ true).
    ap (λ text. lookup (bytes_eq text) fields) ((bytes_decides name field.0).0 is) ∙ lookup_none field.0 fields distinct.0 in
    lookup_all fields (placed field so_far) name distinct.1
    ∙ ap (option_or (lookup (bytes_eq name) fields)) (lookup_placed field so_far name)
    ∙ all_step (bytes_eq name field.0) field name (lookup (bytes_eq name) fields) (lookup (bytes_eq name) so_far) none

or_none : (o : Option (List (List ℕ))) → option_or o None ≡ o
or_none None = refl
or_none (Some values) = refl

-- ---- the law

as_map : Headers → HashMap (List ℕ) (List (List ℕ)) (Unit {0})
as_map headers = hash_map headers tt 0

same_option : (o : Option (List (List ℕ))) → option_eq (pointwise bytes_eq) o o ≡ true
same_option None = refl
same_option (Some values) = (lists_equiv nat_list_eq_equiv).refl values

pub same_from_lookups : (one other : Headers) → ((name : List ℕ) → lookup (bytes_eq name) one ≡ lookup (bytes_eq name) other) → same_headers one other ≡ true
unfolding as_map
same_from_lookups one other same =
    hash_map_eq_from_get bytes_eq (pointwise bytes_eq) (as_map one) (as_map other)
    (λ name. ap (λ o. option_eq (pointwise bytes_eq) o (lookup (bytes_eq name) other)) (same name) ∙ same_option (lookup (bytes_eq name) other))

pub reads_back : (headers : Headers) → are_fields headers ≡ true → AreDistinct headers → ReadsAs (headers_in (headers_json headers)) headers
reads_back headers valid distinct =
    let told = told_all headers [] no_members valid tt in
    let none = no_inner (codes "inner") (fold put_field no_members headers) (all_placed [] headers) told in
    let read : headers_in (headers_json headers) ≡ Some (all_placed [] headers) = ap (λ o. option_or o (direct_in (headers_json headers))) none ∙ told_fields (fold put_field no_members headers) (all_placed [] headers) told in
    let same = same_from_lookups (all_placed [] headers) headers (λ name. lookup_all headers [] name distinct ∙ or_none (lookup (bytes_eq name) headers)) in
    subst (λ o. ReadsAs o headers) (sym read) same
