-- What moves make of the clients of one broker.
use Rattle.std.specs.Prelude.{◌≡◌, ℕ, suc, Bool, true, false, ◌&&◌, ◌+◌, is_some, length, take, drop, map, List, [], ◌∷◌, ◌++◌, Option, Some, None, if◌then◌else◌}
use Rattle.nats_server_text.specs.Said.{read_hello}
use Rattle.nats_history.specs.declared.config.Config.{Config}
use Rattle.nats_history.specs.declared.turn.Turn.{Turn}
use Rattle.nats_history.specs.declared.turn.Turn.TheVariants as turn
use Rattle.nats_history.specs.declared.transcript.Transcript.{Transcript}
use Rattle.nats_history.specs.History.{History, waiting_bytes}
use Rattle.nats_history.specs.Parts.{parts_of}
use Rattle.nats_history.specs.Schedule.{steps, is_valid_turn}
use Rattle.nats_history.specs.Transcripts.{transcript}
use Rattle.nats_outboxes.specs.Outboxes.{item_of, at_number}
use Rattle.nats_broker.specs.declared.info.BrokerInfo.{BrokerInfo}
use Rattle.nats_broker.specs.declared.turn.BrokerTurn.{BrokerTurn}
use Rattle.nats_broker.specs.declared.turn.BrokerTurn.TheVariants.{Join, Feed}
use Rattle.nats_broker.specs.Peers.{up_peer}
use Rattle.nats_broker.specs.Playing.{BrokerSeen, new_broker, played}
use Rattle.nats_broker.specs.Routes.{text_of}
use Rattle.nats_moves.specs.declared.moves.Move.{Move}
use Rattle.nats_moves.specs.declared.moves.Move.TheVariants.{Do, Take, Carry, Bring}

-- one client
pub record Member : Type 0 where
  pub config : Config
  -- its turns so far
  pub turns : List Turn
  -- how many bytes were brought to it, of what the broker told it behind its first line
  pub brought : ℕ

-- the clients by their numbers, from 1, and the broker as its turns so far left it
pub record Mesh : Type 0 where
  pub members : List Member
  pub broker : BrokerSeen

-- each client comes up with what it reads in the broker's first line
abbrev pub up_turn : BrokerInfo → Turn
up_turn info = turn.Up (read_hello info.server_id info.max_payload)

abbrev pub new_member : BrokerInfo → Config → Member
new_member info config = record { config = config; turns = up_turn info ∷ []; brought = 0 }

abbrev pub join_of : Config → BrokerTurn
join_of config = Join

-- each client joined, and came up
abbrev pub new_mesh : BrokerInfo → List Config → Mesh
new_mesh info configs = record {
  members = map (new_member info) configs;
  broker = played (map join_of configs) (new_broker info);
}

-- ---- how a client stands

abbrev pub history_of : Member → History
history_of member = steps member.config member.turns

-- whether a turn of it may come
abbrev pub may_play : Member → Turn → Bool
may_play member turn = is_valid_turn (parts_of member.config (history_of member)) turn

-- the bytes that wait for its link
abbrev pub waiting : Member → List ℕ
waiting member = waiting_bytes member.config (history_of member)

-- so many of them, or all
abbrev pub carried : ℕ → Member → List ℕ
carried n member = take n (waiting member)

-- what the broker told a client behind its first line
abbrev pub told_behind : ℕ → BrokerSeen → List ℕ
told_behind i b = drop (length b.info) (text_of i b)

-- so many of the bytes of that which were not brought yet, or all
abbrev pub next_told : ℕ → ℕ → BrokerSeen → Member → List ℕ
next_told i n b member = take n (drop member.brought (told_behind i b))

-- ---- one move

-- the client that it is of
abbrev pub client_of : Move → ℕ
client_of (Do i call) = i
client_of (Take i sid) = i
client_of (Carry i n) = i
client_of (Bring i n) = i

-- the client's turn
abbrev pub turn_of : BrokerSeen → Member → Move → Turn
turn_of b member (Do i call) = turn.Do call
turn_of b member (Take i sid) = turn.Take sid
turn_of b member (Carry i n) = turn.Write n
turn_of b member (Bring i n) = turn.Piece (next_told i n b member)

-- the broker's, if it has one
abbrev pub feeds : Member → Move → List BrokerTurn
feeds member (Do i call) = []
feeds member (Take i sid) = []
feeds member (Carry i n) = Feed i (carried n member) ∷ []
feeds member (Bring i n) = []

-- how many bytes of what it was told the client is brought
abbrev pub brings : BrokerSeen → Member → Move → ℕ
brings b member (Do i call) = 0
brings b member (Take i sid) = 0
brings b member (Carry i n) = 0
brings b member (Bring i n) = length (next_told i n b member)

abbrev pub is_up_at : ℕ → BrokerSeen → Bool
is_up_at i b = is_some (up_peer (item_of i b.peers))

-- where it goes between the client and the broker, the client's peer has to be up
abbrev pub may_pass : BrokerSeen → Move → Bool
may_pass b (Do i call) = true
may_pass b (Take i sid) = true
may_pass b (Carry i n) = is_up_at i b
may_pass b (Bring i n) = is_up_at i b

-- its client, where there is one, may play its turn
abbrev pub takes_turn : BrokerSeen → Move → Option Member → Bool
takes_turn b move None = false
takes_turn b move (Some member) = may_play member (turn_of b member move)

-- a move may come where it may pass, there is such a client, and its turn may come
abbrev pub is_valid_move : Move → Mesh → Bool
is_valid_move move mesh =
    may_pass mesh.broker move && takes_turn mesh.broker move (item_of (client_of move) mesh.members)

abbrev pub member_after : BrokerSeen → Move → Member → Member
member_after b move member = record {
  config = member.config;
  turns = member.turns ++ turn_of b member move ∷ [];
  brought = member.brought + brings b member move;
}

abbrev pub feeds_of : Move → Option Member → List BrokerTurn
feeds_of move None = []
feeds_of move (Some member) = feeds member move

-- the broker's turns of a move
abbrev pub fed_by : Move → Mesh → List BrokerTurn
fed_by move mesh = feeds_of move (item_of (client_of move) mesh.members)

abbrev pub after_move : Move → Mesh → Mesh
after_move move mesh = record {
  members = at_number (client_of move) (member_after mesh.broker move) mesh.members;
  broker = played (fed_by move mesh) mesh.broker;
}

-- ---- all moves

abbrev pub moved : List Move → Mesh → Mesh
moved [] mesh = mesh
moved (move ∷ moves) mesh = moved moves (after_move move mesh)

-- the place of the first move that may not come where it stands, counted from `place`
abbrev pub out_of_turn_from : ℕ → List Move → Mesh → Option ℕ
out_of_turn_from place [] mesh = None
out_of_turn_from place (move ∷ moves) mesh =
    if is_valid_move move mesh then out_of_turn_from (suc place) moves (after_move move mesh) else Some place

abbrev pub transcript_of : Member → Transcript
transcript_of member = transcript member.config member.turns

abbrev pub transcripts : Mesh → List Transcript
transcripts mesh = map transcript_of mesh.members

-- ---- the broker's turns

-- those of some moves, in order
abbrev pub fed_by_all : List Move → Mesh → List BrokerTurn
fed_by_all [] mesh = []
fed_by_all (move ∷ moves) mesh = fed_by move mesh ++ fed_by_all moves (after_move move mesh)
