-- What the calls that test a name, a value or both may answer. A name is tested first, then a value; want of memory may
-- be answered only where the tests passed.
use Rattle.std.specs.Prelude.{◌≡◌, ℕ, Bool, true, false, List, Result, Ok, Err}
use Rattle.nats_header.specs.Names.{is_header_name, is_header_value}
use Rattle.nats_header.specs.declared.error.HeaderError.{HeaderError}
use Rattle.nats_header.specs.declared.error.HeaderError.TheVariants.{Name, Value, NoMemory}

-- the answer to a text that is to be a name
abbrev pub NameAnswer : List ℕ → Result (List ℕ) HeaderError → Type 0
NameAnswer text (Ok name) = (name ≡ text) × (is_header_name text ≡ true)
NameAnswer text (Err Name) = is_header_name text ≡ false
NameAnswer text (Err Value) = ⊥
NameAnswer text (Err NoMemory) = is_header_name text ≡ true

-- the answer to a text that is to be a value
abbrev pub ValueAnswer : List ℕ → Result (List ℕ) HeaderError → Type 0
ValueAnswer text (Ok value) = (value ≡ text) × (is_header_value text ≡ true)
ValueAnswer text (Err Name) = ⊥
ValueAnswer text (Err Value) = is_header_value text ≡ false
ValueAnswer text (Err NoMemory) = is_header_value text ≡ true

-- when each answer may come to a name and a value of which the tests say these
abbrev pub FieldAnswer : Bool → Bool → Result (Unit {0}) HeaderError → Type 0
FieldAnswer is_name is_value (Ok done) = (is_name ≡ true) × (is_value ≡ true)
FieldAnswer is_name is_value (Err Name) = is_name ≡ false
FieldAnswer is_name is_value (Err Value) = (is_name ≡ true) × (is_value ≡ false)
FieldAnswer is_name is_value (Err NoMemory) = (is_name ≡ true) × (is_value ≡ true)

-- the answer to two texts that are to be a name and a value
abbrev pub PairAnswer : List ℕ → List ℕ → Result (List ℕ × List ℕ) HeaderError → Type 0
PairAnswer name value (Ok made) =
    (made.0 ≡ name) × (made.1 ≡ value) × (is_header_name name ≡ true) × (is_header_value value ≡ true)
PairAnswer name value (Err error) = FieldAnswer (is_header_name name) (is_header_value value) (Err error)
