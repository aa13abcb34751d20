-- What the clients of one broker hear.
use Rattle.std.specs.Prelude.{◌≡◌, ℕ, ◌^◌, ◌<◌, ◌≤◌, true, false, List, [], ◌∷◌, ◌++◌, Some, None}
use Rattle.nats_names.specs.Names.{is_token}
use Rattle.nats_message.specs.declared.message.Message.{Message}
use Rattle.nats_info.specs.declared.info.ServerInfo.{ServerInfo}
use Rattle.nats_lines.specs.Operations.{operations}
use Rattle.nats_history.specs.declared.config.Config.{Config}
use Rattle.nats_history.specs.declared.turn.Turn.{Turn}
use Rattle.nats_history.specs.declared.turn.Turn.TheVariants.{Up}
use Rattle.nats_history.specs.History.{is_up, at_of, link_text, told}
use Rattle.nats_history.specs.Schedule.{steps}
use Rattle.nats_link_text.specs.Typed.{IsTypedCall, IsTypedConfig, AreTypedTurns}
use Rattle.nats_outboxes.specs.Outboxes.{item_of}
use Rattle.nats_broker.specs.declared.info.BrokerInfo.{BrokerInfo}
use Rattle.nats_broker.specs.declared.turn.BrokerTurn.{BrokerTurn}
use Rattle.nats_broker.specs.Playing.{new_broker, played}
use Rattle.nats_broker.specs.Routes.{text_of}
use Rattle.nats_broker_laws.specs.Order.{commands_of, bytes_of}
use Rattle.nats_server_laws.specs.Waiting.{asked_numbers}
use Rattle.nats_heard.specs.Heard.{by_place, messages_in, NoneUp}
use Rattle.nats_moves.specs.declared.moves.Move.{Move}
use Rattle.nats_moves.specs.declared.moves.Move.TheVariants.{Do}
use Rattle.nats_moves.specs.Mesh.{Member, new_mesh, history_of, told_behind, moved, out_of_turn_from}

-- ---- numbers

abbrev pub AreWithin : ℕ → List ℕ → Type 0
AreWithin limit [] = Unit {0}
AreWithin limit (n ∷ numbers) = (n ≤ limit) × AreWithin limit numbers

-- where a client tests subjects, a beginning of what its one link carries asks a broker for messages only under 0 and
-- under the numbers of subscriptions whose subscribe was handled
abbrev pub OwnNumbers : Type 0
OwnNumbers = (c : Config) (info : ServerInfo) (turns : List Turn) (some more : List ℕ)
    → c.skip_subject_validation ≡ false → IsTypedConfig c → AreTypedTurns (Up info ∷ turns) → NoneUp turns
    → is_up (steps c (Up info ∷ turns)) ≡ true → link_text c (steps c (Up info ∷ turns)) ≡ some ++ more
    → AreWithin (at_of (steps c (Up info ∷ turns))).subscribed (asked_numbers (commands_of some))

-- whatever turns a broker plays, it tells a peer no message of a number that is above all under which the peer's bytes
-- ask for messages
abbrev pub ToldOwn : Type 0
ToldOwn = (info : BrokerInfo) (turns : List BrokerTurn) (p limit s : ℕ) → is_token info.server_id ≡ true
    → info.max_payload < 2 ^ 64 → AreWithin limit (asked_numbers (commands_of (bytes_of p 0 turns))) → limit < s
    → messages_in s (operations (text_of p (played turns (new_broker info)))) ≡ []

-- ---- what is heard

-- what the types of settings and calls keep
abbrev pub AreTypedConfigs : List Config → Type 0
AreTypedConfigs [] = Unit {0}
AreTypedConfigs (c ∷ configs) = IsTypedConfig c × AreTypedConfigs configs

abbrev pub IsTypedMove : Move → Type 0
IsTypedMove (Do i call) = IsTypedCall call
IsTypedMove move = Unit {0}

abbrev pub AreTypedMoves : List Move → Type 0
AreTypedMoves [] = Unit {0}
AreTypedMoves (move ∷ moves) = IsTypedMove move × AreTypedMoves moves

-- what a subscription of a client was put and dropped, by place and puts first where places are equal
abbrev pub heard_at : ℕ → Member → List Message
heard_at s member =
    by_place (told member.config s (history_of member)).puts (told member.config s (history_of member)).drops

-- some messages are the first of others
abbrev pub AreFirst : List Message → List Message → Type 0
AreFirst some all = (rest : List Message) × (all ≡ some ++ rest)

-- that is the beginning of the messages of its number in what the broker told the client
abbrev pub HearsTold : ℕ → List ℕ → Member → Type 0
HearsTold s text member = AreFirst (heard_at s member) (messages_in s (operations text))

-- whatever moves come, where a client tests subjects
abbrev pub MeshHears : Type 0
MeshHears =
    (info : BrokerInfo) (configs : List Config) (moves : List Move) (i s : ℕ) (config : Config) (member : Member)
    → is_token info.server_id ≡ true → info.max_payload < 2 ^ 64 → AreTypedConfigs configs → AreTypedMoves moves
    → out_of_turn_from 1 moves (new_mesh info configs) ≡ None
    → item_of i configs ≡ Some config → config.skip_subject_validation ≡ false → 1 ≤ s
    → item_of i (moved moves (new_mesh info configs)).members ≡ Some member
    → HearsTold s (told_behind i (moved moves (new_mesh info configs)).broker) member
