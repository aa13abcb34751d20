-- Headers as pairs of fields.
use Rattle.std.specs.Prelude.{ℕ, Bool, List, [], ◌∷◌, Option, Some, None, if◌then◌else◌}
use Rattle.nats_header.specs.Headers.{Headers, appended}
use Rattle.nats_header.specs.Names.{is_header_name, is_header_value}
use Rattle.nats_spelling.specs.Spelling.{field_text}

-- a text that is so, where it is there
abbrev pub text_that : (List ℕ → Bool) → Option (List ℕ) → Option (List ℕ)
text_that test None = None
text_that test (Some text) = if test text then Some text else None

-- headers with one more value at the end of those of its name
abbrev pub with_value : Headers → Option (List ℕ) → Option (List ℕ) → Option Headers
with_value headers (Some name) (Some value) = Some (appended headers name value)
with_value headers name value = None

-- headers with those of further pairs of fields, a name and a value each, appended in order
abbrev pub headers_from : Option Headers → List (List ℕ) → Option Headers
headers_from None fields = None
headers_from (Some headers) [] = Some headers
headers_from (Some headers) (name ∷ []) = None
headers_from (Some headers) (name ∷ value ∷ more) =
    headers_from (with_value headers (text_that is_header_name (field_text name))
    (text_that is_header_value (field_text value))) more
