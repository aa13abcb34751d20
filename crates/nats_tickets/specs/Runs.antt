-- Kinds told by number, as runs of one kind.
use Rattle.std.specs.Prelude.{◌≡◌, ◌<◌, ◌≤◌, ℕ, Bool, false, ◌⊎◌, ◌++◌, nat_lt, List, [], ◌∷◌, map, if◌then◌else◌}
use Rattle.nats_tables.specs.Numbers.{count_from}
use Rattle.nats_tickets.specs.declared.kinds.Run.{Run}

-- the kind of a number is that of the last run that begins before it
abbrev pub kind_from : Bool → List Run → ℕ → Bool
kind_from kind [] s = kind
kind_from kind (r ∷ rs) s = if nat_lt r.before s then kind_from r.is_request rs s else kind

abbrev pub kind_in : List Run → ℕ → Bool
kind_in runs s = kind_from false runs s

abbrev pub kinds_in : ℕ → List Run → List Bool
kinds_in given runs = map (kind_in runs) (count_from 1 given)

-- from the one after so many numbers on, each run begins behind the one before it, and the last before the end
abbrev pub Runs : ℕ → ℕ → List Run → Type 0
Runs from given [] = from ≤ given
Runs from given (r ∷ rs) = (from ≤ r.before) × (r.before < given) × Runs r.before given rs

abbrev pub last_from : Bool → List Run → Bool
last_from kind [] = kind
last_from kind (r ∷ rs) = last_from r.is_request rs

abbrev pub last_kind : List Run → Bool
last_kind runs = last_from false runs

-- one more number of a kind: the last run goes on, or one begins
abbrev pub Extended : ℕ → Bool → List Run → List Run → Type 0
Extended given kind old new =
    ((last_kind old ≡ kind) × (new ≡ old)) ⊎ (new ≡ old ++ record { before = given; is_request = kind } ∷ [])
