-- The broker's turns, one list behind another.
use Rattle.std.proofs.Common.{◌≡◌, List, [], ◌∷◌, ◌++◌, refl, sym, ◌∙◌, ap, map}
use Rattle.nats_history.specs.declared.config.Config.{Config}
use Rattle.nats_broker.specs.declared.info.BrokerInfo.{BrokerInfo}
use Rattle.nats_broker.specs.declared.turn.BrokerTurn.{BrokerTurn}
use Rattle.nats_broker.specs.Playing.{BrokerSeen, new_broker, after_turn, played}
use Rattle.nats_moves.specs.declared.moves.Move.{Move}
use Rattle.nats_moves.specs.Mesh.{Mesh, join_of, new_mesh, after_move, moved, fed_by, fed_by_all}
use Rattle.nats_moves.specs.Laws.{BrokerOfTurns}

pub played_behind : (turns more : List BrokerTurn) (b : BrokerSeen) → played (turns ++ more) b ≡ played more (played turns b)
played_behind [] more b = refl
played_behind (turn ∷ turns) more b = played_behind turns more (after_turn turn b)

broker_of_moves : (moves : List Move) (mesh : Mesh) → (moved moves mesh).broker ≡ played (fed_by_all moves mesh) mesh.broker
broker_of_moves [] mesh = refl
broker_of_moves (move ∷ moves) mesh =
    broker_of_moves moves (after_move move mesh)
    ∙ sym (played_behind (fed_by move mesh) (fed_by_all moves (after_move move mesh)) mesh.broker)

pub broker_of_turns : BrokerOfTurns
broker_of_turns info configs moves =
    broker_of_moves moves (new_mesh info configs)
    ∙ sym (played_behind (map join_of configs) (fed_by_all moves (new_mesh info configs)) (new_broker info))
