-- A list of texts, read one by one.
use Rattle.std.proofs.Common.{◌≡◌, ℕ, suc, ◌<◌, List, [], ◌∷◌, ◌++◌, length, drop, get_or, Option, Some, None, option_map, refl, ap, sym, ◌∙◌, append_assoc}
use Rattle.std.proofs.Math.Seq.{drop-cons}
use Rattle.serde_json.specs.Data.{Data, Items, item}
use Rattle.serde_json.specs.Find.{as_str}
use Rattle.serde_json.specs.View.{view, items_view}
use Rattle.serde_json.specs.declared.value.Value.{Value}
use Rattle.nats_info.specs.Fields.{texts_of, onto_texts}

-- the texts so far, and those that are left
abbrev pub behind_texts : List (List ℕ) → Option (List (List ℕ)) → Option (List (List ℕ))
behind_texts texts more = option_map (λ more. texts ++ more) more

onto_step : (text : List ℕ) (texts : List (List ℕ)) (more : Option (List (List ℕ)))
    → behind_texts texts (onto_texts (Some text) more) ≡ behind_texts (texts ++ text ∷ []) more
onto_step text texts None = refl
onto_step text texts (Some more) = ap Some (sym (append_assoc texts (text ∷ []) more))

-- one more text is read
pub text_read : (value : Data) (items : Items) (text : List ℕ) (texts : List (List ℕ)) → as_str value ≡ Some text
    → behind_texts texts (texts_of (item value items)) ≡ behind_texts (texts ++ text ∷ []) (texts_of items)
text_read value items text texts is = rw is (onto_step text texts (texts_of items))

-- a value that is no text spoils the list
pub text_missing : (value : Data) (items : Items) → as_str value ≡ None → texts_of (item value items) ≡ None
text_missing value items is = rw is refl

-- the values that are left begin with the one at hand
pub values_left : (values : List Value) (k : ℕ) (value : Value) → k < length values → value ≡ get_or values k value
    → items_view (drop k values) ≡ item (view value) (items_view (drop (suc k) values))
values_left values k value inside is =
    ap items_view (drop-cons values k value inside ∙ ap (λ first. first ∷ drop (suc k) values) (sym is))
