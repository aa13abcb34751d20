-- The members of an object, read one by one: each key is another name, so they are put one behind the other.
use Rattle.std.proofs.Common.{◌≡◌, ℕ, Bool, true, false, ◌||◌, cond, List, [], ◌∷◌, ◌++◌, Option, Some, None, option_map, refl, ap, sym, ◌∙◌, append_assoc, append-nil, String, Global, string_bytes, string_cmp, nat_cmp, is_eq, Less, Err, map, subst}
use Rattle.std.specs.Prelude.{option_and_then}
use Rattle.std.specs.Str.{bytes_eq}
use Rattle.std.specs.Cmp.Lexicographic.{slice_cmp}
use Rattle.std.specs.List.{AllByRecursion}
use Rattle.std.specs.List.Sorted.{IsStrictlySortedBy}
use Rattle.std.specs.Map.{keys_of}
use Rattle.std.proofs.lemmas.Map.Text.{is_eq-slice_cmp}
use Rattle.serde_json.specs.Data.{Members, no_members, member}
use Rattle.serde_json.specs.View.{view, members_view}
use Rattle.serde_json.specs.declared.value.Value.{Value}
use Rattle.serde_json.proofs.Views.{Entry}
use Rattle.nats_header.specs.Headers.{Field, Headers, has_name, with_values}
use Rattle.nats_header.specs.Json.{Gives, Puts, field_with, field_in, onto_fields, fields_in, with_field, NamesAscend}
use Rattle.nats_header.specs.declared.json_error.JsonError.{JsonError}
use Rattle.nats_header.specs.declared.json_error.JsonError.TheVariants.{NoMatch, NoMemory}
use Rattle.nats_header.proofs.Laws.{cond_false, differ}

-- the members are put into a map in turn
abbrev pub filled : Headers → Members → Option Headers
filled headers no_members = Some headers
filled headers (member key json members) = option_and_then (λ more. filled more members) (with_field headers (field_in key json))

neither : (a b : Bool) → (a || b) ≡ false → (a ≡ false) × (b ≡ false)
neither true b h = (h, absurd_of b h)
  where
    absurd_of : (b : Bool) → true ≡ false → b ≡ false
    absurd_of b h = cc
neither false b h = (refl, h)

-- another name goes last
with_values-absent : (headers : Headers) (name : List ℕ) (values : List (List ℕ)) → has_name headers name ≡ false → with_values headers name values ≡ headers ++ (name, values) ∷ []
with_values-absent [] name values none = refl
with_values-absent (field ∷ headers) name values none =
    let apart = neither (bytes_eq name field.0) (has_name headers name) none in
    cond_false (bytes_eq name field.0) ((field.0, values) ∷ headers) (field ∷ with_values headers name values) apart.0
    ∙ ap (λ more. field ∷ more) (with_values-absent headers name values apart.1)

both_false : (a b : Bool) → a ≡ false → b ≡ false → (a || b) ≡ false
both_false true b p q = p
both_false false b p q = q

-- a name that is none of the map's and not the new one is none of both
has_name-last : (headers : Headers) (field : Field) (name : List ℕ) → has_name headers name ≡ false → bytes_eq name field.0 ≡ false → has_name (headers ++ field ∷ []) name ≡ false
has_name-last [] field name none apart = both_false (bytes_eq name field.0) false apart refl
has_name-last (first ∷ headers) field name none apart =
    let others = neither (bytes_eq name first.0) (has_name headers name) none in
    both_false (bytes_eq name first.0) (has_name (headers ++ field ∷ []) name) others.0 (has_name-last headers field name others.1 apart)

abbrev Apart : Headers → List (String Global) → Type 0
Apart headers keys = AllByRecursion (λ key. has_name headers (string_bytes key) ≡ false) keys

-- a key above another is another name
above : (key other : String Global) (field : Field) → field.0 ≡ string_bytes key → string_cmp key other ≡ Less → bytes_eq (string_bytes other) field.0 ≡ false
above key other field is less =
    rw is (differ (string_bytes key) (string_bytes other) (sym (is_eq-slice_cmp (string_bytes key) (string_bytes other)) ∙ ap is_eq less))

apart_step : (headers : Headers) (field : Field) (key : String Global) (keys : List (String Global)) → field.0 ≡ string_bytes key
    → AllByRecursion (λ other. string_cmp key other ≡ Less) keys → Apart headers keys → Apart (headers ++ field ∷ []) keys
apart_step headers field key [] is less apart = tt
apart_step headers field key (other ∷ keys) is less apart =
    (has_name-last headers field (string_bytes other) apart.0 (above key other field is less.0), apart_step headers field key keys is less.1 apart.1)

name_step : (b : Bool) (key : List ℕ) (values : Option (List (List ℕ))) (field : Field) → field_with (cond b (Some key) None) values ≡ Some field → field.0 ≡ key
name_step true key (Some values) field is = sym (named field is)
  where
    named : (field : Field) → Some (key, values) ≡ Some field → key ≡ field.0
    named field is = ap (first_or key) is
      where
        first_or : List ℕ → Option Field → List ℕ
        first_or key None = key
        first_or key (Some field) = field.0
name_step true key None field is = cc
name_step false key values field is = cc

onto_behind : (headers : Headers) (field : Field) (more : Option Headers)
    → option_map (λ more. (headers ++ field ∷ []) ++ more) more ≡ option_map (λ more. headers ++ more) (onto_fields (Some field) more)
onto_behind headers field None = refl
onto_behind headers field (Some more) = ap Some (append_assoc headers (field ∷ []) more)

filled_step : (read : Option Field) (headers : Headers) (key : String Global) (es : List Entry) → ((field : Field) → read ≡ Some field → field.0 ≡ string_bytes key)
    → AllByRecursion (λ other. string_cmp key other ≡ Less) (keys_of es) → has_name headers (string_bytes key) ≡ false → Apart headers (keys_of es)
    → ((more : Headers) → Apart more (keys_of es) → filled more (members_view es) ≡ option_map (λ rest. more ++ rest) (fields_in (members_view es)))
    → option_and_then (λ more. filled more (members_view es)) (with_field headers read) ≡ option_map (λ more. headers ++ more) (onto_fields read (fields_in (members_view es)))
filled_step None headers key es named less none apart rest = refl
filled_step (Some field) headers key es named less none apart rest =
    let is = named field refl in
    let last = with_values-absent headers field.0 field.1 (ap (has_name headers) is ∙ none) in
    ap (λ more. filled more (members_view es)) last
    ∙ rest (headers ++ field ∷ []) (apart_step headers field key (keys_of es) is less apart)
    ∙ onto_behind headers field (fields_in (members_view es))

filled_apart : (headers : Headers) (es : List Entry) → IsStrictlySortedBy string_cmp (keys_of es) → Apart headers (keys_of es)
    → filled headers (members_view es) ≡ option_map (λ more. headers ++ more) (fields_in (members_view es))
unfolding IsStrictlySortedBy
filled_apart headers [] sorted apart = ap Some (sym (append-nil headers))
filled_apart headers (e ∷ es) sorted apart =
    filled_step (field_in (string_bytes e.0) (view e.1)) headers e.0 es (λ field is. name_step _ (string_bytes e.0) _ field is) sorted.0 apart.0 apart.1
    (λ more others. filled_apart more es sorted.1 others)

none_apart : (keys : List (String Global)) → Apart [] keys
none_apart [] = tt
none_apart (key ∷ keys) = (refl, none_apart keys)

behind_none : (more : Option Headers) → option_map (λ more. [] ++ more) more ≡ more
behind_none None = refl
behind_none (Some more) = refl

-- the map that is filled with the members of an object is the one that they are
pub filled_fields : (es : List Entry) → IsStrictlySortedBy string_cmp (keys_of es) → filled [] (members_view es) ≡ fields_in (members_view es)
filled_fields es sorted = filled_apart [] es sorted (none_apart (keys_of es)) ∙ behind_none (fields_in (members_view es))

-- where a member is refused there is no map
pub member_refused : (es rest : List Entry) (key : String Global) (value : Value) (headers new : Headers) (error : JsonError) → IsStrictlySortedBy string_cmp (keys_of es)
    → filled headers (members_view ((key, value) ∷ rest)) ≡ filled [] (members_view es) → Puts (with_field headers (field_in (string_bytes key) (view value))) (Err error) new
    → Gives (fields_in (members_view es)) (Err error)
member_refused es rest key value headers new NoMatch sorted filling refused =
    sym (filled_fields es sorted) ∙ sym filling ∙ ap (option_and_then (λ more. filled more (members_view rest))) refused
member_refused es rest key value headers new NoMemory sorted filling refused = tt

-- ---- the names ascend as the keys do

names_or_none : Option Headers → List (List ℕ)
names_or_none None = []
names_or_none (Some fields) = keys_of fields

names_step : (read : Option Field) (more : Option Headers) (key : List ℕ) (keys : List (List ℕ)) → ((field : Field) → read ≡ Some field → field.0 ≡ key)
    → ((fields : Headers) → more ≡ Some fields → keys_of fields ≡ keys) → (fields : Headers) → onto_fields read more ≡ Some fields → keys_of fields ≡ key ∷ keys
unfolding names_or_none
names_step None more key keys named rest fields is = cc
names_step (Some field) None key keys named rest fields is = cc
names_step (Some field) (Some others) key keys named rest fields is =
    sym (ap names_or_none is) ∙ (λ i. named field refl i ∷ rest others refl i)

names_read : (es : List Entry) (fields : Headers) → fields_in (members_view es) ≡ Some fields → keys_of fields ≡ map string_bytes (keys_of es)
unfolding names_or_none
names_read [] fields is = sym (ap names_or_none is)
names_read (e ∷ es) fields is =
    names_step (field_in (string_bytes e.0) (view e.1)) (fields_in (members_view es)) (string_bytes e.0) (map string_bytes (keys_of es))
    (λ field read. name_step _ (string_bytes e.0) _ field read) (names_read es) fields is

all_above : (key : String Global) (keys : List (String Global)) → AllByRecursion (λ other. string_cmp key other ≡ Less) keys
    → AllByRecursion (λ other. slice_cmp nat_cmp (string_bytes key) other ≡ Less) (map string_bytes keys)
all_above key [] above = tt
all_above key (other ∷ keys) above = (above.0, all_above key keys above.1)

bytes_ascend : (keys : List (String Global)) → IsStrictlySortedBy string_cmp keys → IsStrictlySortedBy (slice_cmp nat_cmp) (map string_bytes keys)
unfolding IsStrictlySortedBy
bytes_ascend [] sorted = tt
bytes_ascend (key ∷ keys) sorted = (all_above key keys sorted.0, bytes_ascend keys sorted.1)

pub names_ascend : (es : List Entry) (fields : Headers) → IsStrictlySortedBy string_cmp (keys_of es) → fields_in (members_view es) ≡ Some fields → NamesAscend fields
names_ascend es fields sorted is = subst (IsStrictlySortedBy (slice_cmp nat_cmp)) (sym (names_read es fields is)) (bytes_ascend (keys_of es) sorted)
