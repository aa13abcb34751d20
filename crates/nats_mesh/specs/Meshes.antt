-- What a list of moves answers, and what subscriptions hear.
use Rattle.std.specs.Prelude.{◌≡◌, ℕ, Bool, true, false, List, Some, None, Result, Ok, Err}
use Rattle.std.specs.Global.{Vec}
use Rattle.std.specs.Result.{result_map_both}
use Rattle.nats_names.specs.declared.failed.NoMemory.{NoMemory}
use Rattle.nats_lines.specs.Operations.{operations}
use Rattle.nats_history.specs.declared.config.Config.{Config}
use Rattle.nats_history.specs.declared.transcript.SubRow.{SubRow}
use Rattle.nats_history.specs.declared.transcript.Transcript.{Transcript}
use Rattle.nats_outboxes.specs.Outboxes.{item_of}
use Rattle.nats_broker.specs.declared.info.BrokerInfo.{BrokerInfo}
use Rattle.nats_broker.specs.declared.turn.RouteError.{RouteError}
use Rattle.nats_broker.specs.declared.turn.RouteError.TheVariants as refused
use Rattle.nats_broker.specs.Playing.{BrokerSeen, is_due}
use Rattle.nats_heard.specs.Heard.{by_place, messages_in}
use Rattle.nats_moves.specs.declared.moves.Move.{Move}
use Rattle.nats_moves.specs.Mesh.{Member, Mesh, new_mesh, told_behind, is_valid_move, after_move}
use Rattle.nats_moves.specs.Mesh.{moved, out_of_turn_from, transcripts}
use Rattle.nats_own_laws.specs.Own.{AreFirst}

abbrev pub mesh_of : List Member → BrokerSeen → Mesh
mesh_of members broker = record { members = members; broker = broker }

-- ---- moves

-- a move that may come is made, and nothing is left due; whether it may come is answered
abbrev pub Moved : Move → Mesh → Result Bool NoMemory → Mesh → Type 0
Moved move old (Ok true) new = (is_valid_move move old ≡ true) × (new ≡ after_move move old) × (is_due new.broker ≡ false)
Moved move old (Ok false) new = is_valid_move move old ≡ false
Moved move old (Err e) new = Unit {0}

-- all moves are made, or the first that may not come is named; memory may be wanting
abbrev pub PlaysMoves : List Move → Mesh → Result (Unit {0}) RouteError → Mesh → Type 0
PlaysMoves moves old (Ok done) new = (out_of_turn_from 1 moves old ≡ None) × (new ≡ moved moves old)
PlaysMoves moves old (Err (refused.OutOfTurn place)) new = out_of_turn_from 1 moves old ≡ Some place
PlaysMoves moves old (Err refused.NoMemory) new = Unit {0}

-- ---- the whole

-- from clients and a broker on: the transcripts are those of the clients once all moves were made, each exactly that of
-- its client's turns; or the first move that may not come is named; memory may be wanting
abbrev pub MeshesFrom : Mesh → List Move → Result (List Transcript) RouteError → Type 0
MeshesFrom start moves (Ok rows) =
    (out_of_turn_from 1 moves start ≡ None) × (rows ≡ transcripts (moved moves start))
MeshesFrom start moves (Err (refused.OutOfTurn place)) = out_of_turn_from 1 moves start ≡ Some place
MeshesFrom start moves (Err refused.NoMemory) = Unit {0}

-- the transcripts that a call answers, as a list
abbrev pub rows_of : Result (Vec Transcript) RouteError → Result (List Transcript) RouteError
rows_of result = result_map_both (λ rows. rows.items) (λ error. error) result

-- from a new broker on, at which each client came up
abbrev pub Meshes : List Config → BrokerInfo → List Move → Result (List Transcript) RouteError → Type 0
Meshes configs info moves result = MeshesFrom (new_mesh info configs) moves result

-- what a row of a transcript tells that a subscription was put and dropped, by place and puts first where places are
-- equal, is the beginning of the messages of its number in what the broker told the client behind its first line
abbrev pub RowHears : ℕ → ℕ → BrokerSeen → SubRow → Type 0
RowHears i s broker row = AreFirst (by_place row.puts row.drops) (messages_in s (operations (told_behind i broker)))

-- so does each row of each client that tests subjects
abbrev pub AllHear : List Config → BrokerSeen → List Transcript → Type 0
AllHear configs broker rows = (i s : ℕ) (config : Config) (row : Transcript) (sub : SubRow)
    → item_of i configs ≡ Some config → config.skip_subject_validation ≡ false → item_of i rows ≡ Some row
    → item_of s row.subs ≡ Some sub → RowHears i s broker sub

abbrev pub MeshesHear : List Config → BrokerInfo → List Move → Result (List Transcript) RouteError → Type 0
MeshesHear configs info moves (Ok rows) = AllHear configs (moved moves (new_mesh info configs)).broker rows
MeshesHear configs info moves (Err e) = Unit {0}
