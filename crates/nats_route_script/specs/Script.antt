-- A script of a broker: a line with the most bytes of a message, then a line for each turn.
use Rattle.std.specs.Prelude.{ℕ, suc, List, [], ◌∷◌, Option, Some, None, Result, Ok, Err, option_and_then, if◌then◌else◌, codes}
use Rattle.std.specs.Option.{option_map}
use Rattle.std.specs.Str.{bytes_eq}
use Rattle.nats_spelling.specs.Cut.{lines_of, fields_of, only}
use Rattle.nats_spelling.specs.Spelling.{field_bytes, field_number}
use Rattle.nats_broker.specs.declared.turn.BrokerTurn.{BrokerTurn}
use Rattle.nats_broker.specs.declared.turn.BrokerTurn.TheVariants.{Join, Feed, Leave}
use Rattle.nats_route_script.specs.declared.script.RouteScript.{RouteScript}
use Rattle.nats_route_script.specs.declared.script.RouteScript.TheVariants.{Good, Bad}

-- ---- the most bytes of a message

-- `max N`
abbrev pub max_of_fields : List (List ℕ) → Option ℕ
max_of_fields [] = None
max_of_fields (first ∷ fields) =
    if bytes_eq first (codes "max") then option_and_then field_number (only fields) else None

abbrev pub max_of_line : List ℕ → Option ℕ
max_of_line line = max_of_fields (fields_of line)

-- ---- turns

abbrev pub feed_with : Option ℕ → Option (List ℕ) → Option BrokerTurn
feed_with (Some p) (Some bytes) = Some (Feed p bytes)
feed_with (Some p) None = None
feed_with None bytes = None

-- `feed p B`
abbrev pub feed_of : List (List ℕ) → Option BrokerTurn
feed_of (p ∷ bytes ∷ []) = feed_with (field_number p) (field_bytes bytes)
feed_of fields = None

-- `leave p`
abbrev pub leave_of : List (List ℕ) → Option BrokerTurn
leave_of fields = option_map Leave (option_and_then field_number (only fields))

abbrev pub turn_of_fields : List (List ℕ) → Option BrokerTurn
turn_of_fields [] = None
turn_of_fields (first ∷ fields) =
    if bytes_eq first (codes "feed") then feed_of fields else
    (if bytes_eq first (codes "leave") then leave_of fields else None)

-- the line `join`, or one of the others
abbrev pub turn_of_line : List ℕ → Option BrokerTurn
turn_of_line line = if bytes_eq line (codes "join") then Some Join else turn_of_fields (fields_of line)

-- ---- the whole

abbrev pub onto_turns : ℕ → Option BrokerTurn → Result (List BrokerTurn) ℕ → Result (List BrokerTurn) ℕ
onto_turns k None rest = Err k
onto_turns k (Some turn) (Ok turns) = Ok (turn ∷ turns)
onto_turns k (Some turn) (Err line) = Err line

-- the turns of the lines from line k on, or the number of the first that is none
abbrev pub turns_from : ℕ → List (List ℕ) → Result (List BrokerTurn) ℕ
turns_from k [] = Ok []
turns_from k (line ∷ lines) = onto_turns k (turn_of_line line) (turns_from (suc k) lines)

abbrev pub script_with : ℕ → Result (List BrokerTurn) ℕ → RouteScript
script_with max (Ok turns) = Good max turns
script_with max (Err line) = Bad line

abbrev pub script_by : Option ℕ → List (List ℕ) → RouteScript
script_by None lines = Bad 1
script_by (Some max) lines = script_with max (turns_from 2 lines)

abbrev pub script_of_lines : List (List ℕ) → RouteScript
script_of_lines [] = Bad 1
script_of_lines (line ∷ lines) = script_by (max_of_line line) lines

-- what bytes say as a script of a broker: the most bytes of a message and the turns, or the number of its first line
-- that cannot be read
abbrev pub script : List ℕ → RouteScript
script bytes = script_of_lines (lines_of bytes)
