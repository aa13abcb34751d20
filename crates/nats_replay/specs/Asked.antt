-- The words that ask for a script of a broker, or of calls that are tried again.
use Rattle.std.specs.Prelude.{◌≡◌, ℕ, ◌&&◌, nat_le, List, [], ◌∷◌, Option, Some, None, option_and_then, if◌then◌else◌, true, codes, bytes_eq}
use Rattle.nats_spelling.specs.Spelling.{field_number}
use Rattle.nats_replay.specs.declared.asked.Asked.{Asked}
use Rattle.nats_replay.specs.declared.asked.Asked.TheVariants.{Route, Rpc}

-- the most requests that are made for a call, and the most milliseconds that each waits
abbrev pub tries_limit : ℕ
tries_limit = 100

abbrev pub patience_limit : ℕ
patience_limit = 4294967295

abbrev pub in_tries : ℕ → Option ℕ
in_tries n = if nat_le 1 n && nat_le n tries_limit then Some n else None

abbrev pub in_patience : ℕ → Option ℕ
in_patience n = if nat_le n patience_limit then Some n else None

abbrev pub rpc_with : Option ℕ → Option ℕ → Option Asked
rpc_with (Some tries) (Some patience) = Some (Rpc tries patience)
rpc_with (Some tries) None = None
rpc_with None patience = None

-- `route`, or `rpc TRIES PATIENCE` with TRIES from 1 to 100 and PATIENCE below 2^32
abbrev pub asked_by : List (List ℕ) → Option Asked
asked_by (word ∷ []) = if bytes_eq word (codes "route") then Some Route else None
asked_by (word ∷ tries ∷ patience ∷ []) =
    if bytes_eq word (codes "rpc")
    then rpc_with (option_and_then in_tries (field_number tries)) (option_and_then in_patience (field_number patience))
    else None
asked_by words = None

-- a call has one try at least
abbrev pub IsFit : Asked → Type 0
IsFit Route = Unit {0}
IsFit (Rpc tries patience) = nat_le 1 tries ≡ true
