-- What JSON says of the fields of a message, and their JSON.
use Rattle.std.specs.Prelude.{ℕ, nat_le, ◌&&◌, List, [], ◌∷◌, ◌++◌, map, fold, Option, Some, None, option_and_then, option_map, is_some, if◌then◌else◌}
use Rattle.serde_json.specs.Data.{unsigned, Data, null, boolean, number, string, array, object, Items, no_items, item}
use Rattle.serde_json.specs.Find.{as_null}
use Rattle.serde_json.specs.View.{items_of}
use Rattle.nats_info.specs.Fields.{below, whole}

-- ---- the kinds of fields

-- a byte: a whole number below 256
abbrev pub byte_in : Data → Option ℕ
byte_in json = option_and_then (below 256) (whole json)

abbrev pub onto_bytes : Option ℕ → Option (List ℕ) → Option (List ℕ)
onto_bytes (Some byte) (Some bytes) = Some (byte ∷ bytes)
onto_bytes (Some byte) None = None
onto_bytes None bytes = None

-- the bytes that the items of a list are
abbrev pub bytes_in : Items → Option (List ℕ)
bytes_in no_items = Some []
bytes_in (item json items) = onto_bytes (byte_in json) (bytes_in items)

-- each byte stands last in turn
abbrev pub all_pushed : List ℕ → List ℕ → List ℕ
all_pushed bytes more = fold (λ so_far byte. so_far ++ byte ∷ []) bytes more

-- a payload: a list of bytes, or a string, which means its bytes
abbrev pub payload_in : Data → Option (List ℕ)
payload_in (array items) = bytes_in items
payload_in (string text) = Some text
payload_in null = None
payload_in (boolean b) = None
payload_in (number n) = None
payload_in (object fields) = None

-- what null means nothing of, and else this reader reads
abbrev pub or_null : {A : Type 0} → (Data → Option A) → Data → Option (Option A)
or_null kind json = if is_some (as_null json) then Some None else option_map Some (kind json)

-- the number of a status
abbrev pub if_status : ℕ → Option ℕ
if_status n = if nat_le 100 n && nat_le n 999 then Some n else None

abbrev pub status_in : Data → Option ℕ
status_in json = option_and_then if_status (whole json)

-- a field that must be there
abbrev pub needed : {A : Type 0} → (Data → Option A) → Option Data → Option A
needed kind None = None
needed kind (Some json) = kind json

-- ---- their JSON

-- a list of numbers
abbrev pub bytes_json : List ℕ → Data
bytes_json bytes = array (items_of (map (λ byte. number (unsigned byte)) bytes))

abbrev pub json_or_null : {A : Type 0} → (A → Data) → Option A → Data
json_or_null kind None = null
json_or_null kind (Some value) = kind value
