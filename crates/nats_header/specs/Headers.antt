-- A header map as a list: the names in the order of their first insertion, each with its values in order.
use Rattle.std.specs.Prelude.{ℕ, Bool, not, ◌&&◌, ◌==◌, List, [], ◌∷◌, ◌++◌, length, fold, if◌then◌else◌}
use Rattle.std.specs.List.{list_all, list_any, IsDistinct}
use Rattle.std.specs.Map.{keys_of}
use Rattle.std.specs.HashMap.{entries_eq}
use Rattle.std.specs.Str.{bytes_eq}
use Rattle.std.specs.Cmp.Lexicographic.{pointwise}
use Rattle.nats_header.specs.Names.{is_header_name, is_header_value}

-- a name with its values
abbrev pub Field : Type 0
Field = List ℕ × List (List ℕ)

abbrev pub Headers : Type 0
Headers = List Field

-- whether the name is there; names differ by case
abbrev pub has_name : Headers → List ℕ → Bool
has_name headers name = list_any (λ field. bytes_eq name field.0) headers

-- the values of a name, none where it isn't there
abbrev pub values_of : Headers → List ℕ → List (List ℕ)
values_of [] name = []
values_of (field ∷ headers) name = if bytes_eq name field.0 then field.1 else values_of headers name

-- the name has just these values: it keeps its place, or goes last where it wasn't there
abbrev pub with_values : Headers → List ℕ → List (List ℕ) → Headers
with_values [] name values = (name, values) ∷ []
with_values (field ∷ headers) name values =
    if bytes_eq name field.0 then (field.0, values) ∷ headers else field ∷ with_values headers name values

-- the name has this value alone
abbrev pub inserted : Headers → List ℕ → List ℕ → Headers
inserted headers name value = with_values headers name (value ∷ [])

-- the value stands last among those of the name
abbrev pub appended : Headers → List ℕ → List ℕ → Headers
appended headers name value = with_values headers name (values_of headers name ++ value ∷ [])

-- each pair is inserted in turn
abbrev pub all_inserted : Headers → List (List ℕ × List ℕ) → Headers
all_inserted headers pairs = fold (λ so_far pair. inserted so_far pair.0 pair.1) headers pairs

-- a name of the protocol with one or more values of the protocol
abbrev pub is_field : Field → Bool
is_field field =
    is_header_name field.0 && not (length field.1 == 0) && list_all is_header_value field.1

-- what holds of each header map
abbrev pub are_fields : Headers → Bool
are_fields headers = list_all is_field headers

-- no name stands twice
abbrev pub AreDistinct : Headers → Type 0
AreDistinct headers = IsDistinct bytes_eq (keys_of headers)

-- whether two header maps have the same values in order at each name of either; the order of names doesn't matter
abbrev pub same_headers : Headers → Headers → Bool
same_headers = entries_eq bytes_eq (λ one other. pointwise bytes_eq one.1 other.1)
