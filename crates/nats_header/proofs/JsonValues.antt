-- Values put at a name one by one.
use Rattle.std.proofs.Common.{◌≡◌, ℕ, Bool, true, false, cond, List, [], ◌∷◌, ◌++◌, Option, Some, None, option_map, refl, ap, sym, ◌∙◌, append_assoc, append-nil}
use Rattle.std.specs.Str.{bytes_eq}
use Rattle.nats_header.specs.Headers.{Field, Headers, with_values, inserted, appended}
use Rattle.nats_header.specs.Json.{onto_values, all_appended}
use Rattle.nats_header.proofs.Laws.{cond_true, cond_false, same_self, values_of-with_values}

twice_step : (b : Bool) (field : Field) (headers : Headers) (name : List ℕ) (old new : List (List ℕ)) → bytes_eq name field.0 ≡ b
    → with_values (with_values headers name old) name new ≡ with_values headers name new
    → with_values (cond b ((field.0, old) ∷ headers) (field ∷ with_values headers name old)) name new ≡ cond b ((field.0, new) ∷ headers) (field ∷ with_values headers name new)
twice_step true field headers name old new is rest =
    cond_true (bytes_eq name field.0) ((field.0, new) ∷ headers) ((field.0, old) ∷ with_values headers name new) is
twice_step false field headers name old new is rest =
    cond_false (bytes_eq name field.0) ((field.0, new) ∷ with_values headers name old) (field ∷ with_values (with_values headers name old) name new) is
    ∙ ap (λ more. field ∷ more) rest

-- the values that a name gets last count
with_values-twice : (headers : Headers) (name : List ℕ) (old new : List (List ℕ)) → with_values (with_values headers name old) name new ≡ with_values headers name new
with_values-twice [] name old new = cond_true (bytes_eq name name) ((name, new) ∷ []) ((name, old) ∷ (name, new) ∷ []) (same_self name)
with_values-twice (field ∷ headers) name old new =
    twice_step (bytes_eq name field.0) field headers name old new refl (with_values-twice headers name old new)

appended-with_values : (headers : Headers) (name value : List ℕ) (values : List (List ℕ)) → appended (with_values headers name values) name value ≡ with_values headers name (values ++ value ∷ [])
appended-with_values headers name value values =
    ap (λ old. with_values (with_values headers name values) name (old ++ value ∷ [])) (values_of-with_values headers name values)
    ∙ with_values-twice headers name values (values ++ value ∷ [])

-- values behind those of a name
all_appended-with_values : (headers : Headers) (name : List ℕ) (values more : List (List ℕ)) → all_appended (with_values headers name values) name more ≡ with_values headers name (values ++ more)
all_appended-with_values headers name values [] = ap (with_values headers name) (sym (append-nil values))
all_appended-with_values headers name values (value ∷ more) =
    ap (λ h. all_appended h name more) (appended-with_values headers name value values)
    ∙ all_appended-with_values headers name (values ++ value ∷ []) more
    ∙ ap (with_values headers name) (append_assoc values (value ∷ []) more)

-- the first value is inserted, the others follow it
pub first_put : (headers : Headers) (name value : List ℕ) (more : Option (List (List ℕ)))
    → option_map (all_appended (inserted headers name value) name) more ≡ option_map (with_values headers name) (onto_values (Some value) more)
first_put headers name value None = refl
first_put headers name value (Some more) = ap Some (all_appended-with_values headers name (value ∷ []) more)
