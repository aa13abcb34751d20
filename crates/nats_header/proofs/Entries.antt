-- A header map as the entries of an index map.
use Rattle.std.proofs.Common.{◌≡◌, ℕ, Bool, true, false, cond, List, [], ◌∷◌, Option, Some, None, refl, ap, ◌∙◌}
use Rattle.std.proofs.lemmas.List.Elements.{same_from_all_zip}
use Rattle.std.specs.List.{AllZip}
use Rattle.std.specs.Map.{lookup, set_value}
use Rattle.std.specs.Str.{bytes_eq}
use Rattle.indexmap.specs.IndexMap.{insert_entry}
use Rattle.nats_header.specs.Headers.{Field, Headers, values_of, with_values}

-- std's words for a map's entries are this crate's
pub insert_entry-with_values : (headers : Headers) (name : List ℕ) (values : List (List ℕ)) → insert_entry bytes_eq headers name values ≡ with_values headers name values
insert_entry-with_values [] name values = refl
insert_entry-with_values (field ∷ headers) name values =
    ap (λ r. cond (bytes_eq name field.0) ((field.0, values) ∷ headers) (field ∷ r)) (insert_entry-with_values headers name values)

values_or_none : Option (List (List ℕ)) → List (List ℕ)
values_or_none None = []
values_or_none (Some values) = values

cond_found : (b : Bool) (values : List (List ℕ)) (r : Option (List (List ℕ))) (vs : List (List ℕ)) → values_or_none r ≡ vs → values_or_none (cond b (Some values) r) ≡ cond b values vs
unfolding values_or_none
cond_found true values r vs e = refl
cond_found false values r vs e = e

lookup-values_of : (headers : Headers) (name : List ℕ) → values_or_none (lookup (bytes_eq name) headers) ≡ values_of headers name
unfolding values_or_none
lookup-values_of [] name = refl
lookup-values_of (field ∷ headers) name =
    cond_found (bytes_eq name field.0) field.1 (lookup (bytes_eq name) headers) (values_of headers name) (lookup-values_of headers name)

-- what a look-up by name finds
pub values_of-found : (headers : Headers) (name : List ℕ) (values : List (List ℕ)) → Some values ≡ lookup (bytes_eq name) headers → values ≡ values_of headers name
unfolding values_or_none
values_of-found headers name values e = ap values_or_none e ∙ lookup-values_of headers name

pub values_of-absent : (headers : Headers) (name : List ℕ) → None ≡ lookup (bytes_eq name) headers → [] ≡ values_of headers name
unfolding values_or_none
values_of-absent headers name e = ap values_or_none e ∙ lookup-values_of headers name

-- a write through what a look-up lent
pub set_value-with_values : (headers : Headers) (name : List ℕ) (old new : List (List ℕ)) → Some old ≡ lookup (bytes_eq name) headers → set_value (bytes_eq name) headers new ≡ with_values headers name new
set_value-with_values [] name old new e = cc
set_value-with_values (field ∷ headers) name old new e =
    written (bytes_eq name field.0) (λ k. set_value-with_values headers name old new k) e
  where
    written : (b : Bool) → (Some old ≡ lookup (bytes_eq name) headers → set_value (bytes_eq name) headers new ≡ with_values headers name new)
        → Some old ≡ cond b (Some field.1) (lookup (bytes_eq name) headers)
        → cond b ((field.0, new) ∷ headers) (field ∷ set_value (bytes_eq name) headers new) ≡ cond b ((field.0, new) ∷ headers) (field ∷ with_values headers name new)
    written true rest e = refl
    written false rest e = ap (λ r. field ∷ r) (rest e)

-- a name and values that are clones of a name and values
abbrev pub IsFieldClone : Field → Field → Type 0
IsFieldClone old new = (new.0 ≡ old.0) × AllZip (λ a b. b ≡ a) old.1 new.1

same_field : (old new : Field) → IsFieldClone old new → new ≡ old
same_field old new h = let values = same_from_all_zip (λ a b. b ≡ a) old.1 new.1 h.1 (λ a b e. e) in λ i. (h.0 i, values i)

-- a map of clones is the same map
pub cloned : (old new : Headers) → AllZip IsFieldClone old new → new ≡ old
cloned old new h = same_from_all_zip IsFieldClone old new h same_field
