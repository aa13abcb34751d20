-- What a peer says of itself as it connects.
use Rattle.std.specs.Prelude.{◌≡◌, ℕ, Bool, List, Option, Some, None, Result, Ok, Err, option_and_then, if◌then◌else◌, codes}
use Rattle.std.specs.Str.{is_utf8}
use Rattle.serde_json.specs.Data.{Data, null, boolean, number, string, array, object}
use Rattle.serde_json.specs.Find.{get, as_bool}
use Rattle.serde_json.specs.Read.{read}
use Rattle.nats_broker_text.specs.declared.connect.Wishes.{Wishes}
use Rattle.nats_broker_text.specs.declared.connect.ConnectError.{ConnectError}
use Rattle.nats_broker_text.specs.declared.connect.ConnectError.TheVariants as refused

abbrev pub wish : List ℕ → Data → Option Bool
wish key value = option_and_then as_bool (get key value)

abbrev pub wishes_with : Data → Wishes
wishes_with value = record { echo = wish (codes "echo") value; no_responders = wish (codes "no_responders") value }

abbrev pub wishes_of : Data → Option Wishes
wishes_of (object members) = Some (wishes_with (object members))
wishes_of null = None
wishes_of (boolean b) = None
wishes_of (number n) = None
wishes_of (string text) = None
wishes_of (array items) = None

-- a JSON object in UTF-8
abbrev pub wishes_at : List ℕ → Option Wishes
wishes_at text = if is_utf8 text then option_and_then wishes_of (read text) else None

-- what a reader answers: this, or that it is none, or want of memory
abbrev pub Gives : {A : Type 0} → Option A → Result A ConnectError → Type 0
Gives found (Ok a) = found ≡ Some a
Gives found (Err refused.Unreadable) = found ≡ None
Gives found (Err refused.NoMemory) = Unit {0}

-- what the error prints
abbrev pub connect_error_text : ConnectError → List ℕ
connect_error_text refused.Unreadable = codes "no JSON object"
connect_error_text refused.NoMemory = codes "out of memory"
