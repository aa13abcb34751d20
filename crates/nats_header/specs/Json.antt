-- What JSON says of header names, values and maps, and the JSON of a map.
use Rattle.std.specs.Prelude.{◌≡◌, ℕ, List, [], ◌∷◌, map, fold, Option, Some, None, option_and_then, option_map, if◌then◌else◌, Result, Ok, Err, IsTrue, codes}
use Rattle.std.specs.Option.{option_or}
use Rattle.std.specs.Ordering.{nat_cmp}
use Rattle.std.specs.Cmp.Lexicographic.{slice_cmp}
use Rattle.std.specs.List.Sorted.{IsStrictlySortedBy}
use Rattle.std.specs.Map.{keys_of}
use Rattle.serde_json.specs.Data.{Data, string, array, object, Items, no_items, item, Members, no_members, member, put}
use Rattle.serde_json.specs.Find.{get, as_str, as_array, as_object}
use Rattle.serde_json.specs.View.{items_of}
use Rattle.nats_header.specs.Names.{is_header_name, is_header_value}
use Rattle.nats_header.specs.Headers.{Field, Headers, with_values, appended, same_headers}
use Rattle.nats_header.specs.declared.json_error.JsonError.{JsonError}
use Rattle.nats_header.specs.declared.json_error.JsonError.TheVariants.{NoMatch, NoMemory}

-- what the error prints
abbrev pub json_error_text : JsonError → List ℕ
json_error_text NoMatch = codes "unexpected JSON"
json_error_text NoMemory = codes "out of memory"

-- the answer is what the JSON says, `NoMatch` exactly where it says nothing; memory may be wanting
abbrev pub Gives : {A : Type 0} → Option A → Result A JsonError → Type 0
Gives said (Ok value) = said ≡ Some value
Gives said (Err NoMatch) = said ≡ None
Gives said (Err NoMemory) = Unit {0}

-- the same answer for a value that is changed in its place; a refusal says nothing of it
abbrev pub Puts : {A : Type 0} → Option A → Result (Unit {0}) JsonError → A → Type 0
Puts said (Ok done) new = said ≡ Some new
Puts said (Err NoMatch) new = said ≡ None
Puts said (Err NoMemory) new = Unit {0}

-- ---- names and values

-- the text, where it is a header's name
abbrev pub if_name : List ℕ → Option (List ℕ)
if_name text = if is_header_name text then Some text else None

-- the text, where it is a header's value
abbrev pub if_value : List ℕ → Option (List ℕ)
if_value text = if is_header_value text then Some text else None

-- the name that a JSON value is: a string that is a name
abbrev pub name_in : Data → Option (List ℕ)
name_in json = option_and_then if_name (as_str json)

-- the header's value that a JSON value is: a string that is one
abbrev pub value_in : Data → Option (List ℕ)
value_in json = option_and_then if_value (as_str json)

abbrev pub onto_values : Option (List ℕ) → Option (List (List ℕ)) → Option (List (List ℕ))
onto_values (Some value) (Some values) = Some (value ∷ values)
onto_values (Some value) None = None
onto_values None values = None

-- the values that the items of a list are, each one a value
abbrev pub values_in : Items → Option (List (List ℕ))
values_in no_items = Some []
values_in (item json items) = onto_values (value_in json) (values_in items)

-- the same where there is an item
abbrev pub some_values_in : Items → Option (List (List ℕ))
some_values_in no_items = None
some_values_in (item json items) = values_in (item json items)

-- ---- maps

abbrev pub field_with : Option (List ℕ) → Option (List (List ℕ)) → Option Field
field_with (Some name) (Some values) = Some (name, values)
field_with (Some name) None = None
field_with None values = None

-- the name and the values that a member of an object is: its key is a name, its value a list of one or more values
abbrev pub field_in : List ℕ → Data → Option Field
field_in key json = field_with (if_name key) (option_and_then some_values_in (as_array json))

abbrev pub onto_fields : Option Field → Option Headers → Option Headers
onto_fields (Some field) (Some fields) = Some (field ∷ fields)
onto_fields (Some field) None = None
onto_fields None fields = None

-- the map that the members of an object are, in their order, which is that of the bytes of their keys
abbrev pub fields_in : Members → Option Headers
fields_in no_members = Some []
fields_in (member key json members) = onto_fields (field_in key json) (fields_in members)

-- the map that a JSON value itself is
abbrev pub direct_in : Data → Option Headers
direct_in json = option_and_then fields_in (as_object json)

-- the map under the key `inner`
abbrev pub inner_in : Data → Option Headers
inner_in json = option_and_then direct_in (get (codes "inner") json)

-- the map of a JSON value: the one under `inner`, whatever other keys there are, else the value itself
abbrev pub headers_in : Data → Option Headers
headers_in json = option_or (inner_in json) (direct_in json)

-- the names ascend in the order of their bytes
abbrev pub NamesAscend : Headers → Type 0
NamesAscend headers = IsStrictlySortedBy (slice_cmp nat_cmp) (keys_of headers)

-- ---- the JSON of a map

-- a list of strings
abbrev pub values_json : List (List ℕ) → Data
values_json values = array (items_of (map string values))

abbrev pub put_field : Members → Field → Members
put_field members field = put field.0 (values_json field.1) members

-- an object with the list of its values under each name
abbrev pub headers_json : Headers → Data
headers_json headers = object (fold put_field no_members headers)

-- a map is read that is equal to this one
abbrev pub ReadsAs : Option Headers → Headers → Type 0
ReadsAs (Some other) headers = IsTrue (same_headers other headers)
ReadsAs None headers = ⊥

-- ---- how a map is filled

-- each value stands last among those of the name in turn
abbrev pub all_appended : Headers → List ℕ → List (List ℕ) → Headers
all_appended headers name values = fold (λ so_far value. appended so_far name value) headers values

-- the name gets the values, where there are such
abbrev pub with_field : Headers → Option Field → Option Headers
with_field headers field = option_map (λ field. with_values headers field.0 field.1) field
