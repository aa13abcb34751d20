-- What holds of clients of one broker, whatever moves come.
use Rattle.std.specs.Prelude.{◌≡◌, List, ◌++◌, map}
use Rattle.nats_history.specs.declared.config.Config.{Config}
use Rattle.nats_broker.specs.declared.info.BrokerInfo.{BrokerInfo}
use Rattle.nats_broker.specs.Playing.{new_broker, played}
use Rattle.nats_moves.specs.declared.moves.Move.{Move}
use Rattle.nats_moves.specs.Mesh.{join_of, new_mesh, moved, fed_by_all}

-- behind any moves the broker is what its turns leave of a new one: that each client joins, and then those of the moves
abbrev pub BrokerOfTurns : Type 0
BrokerOfTurns = (info : BrokerInfo) (configs : List Config) (moves : List Move)
    → (moved moves (new_mesh info configs)).broker
    ≡ played (map join_of configs ++ fed_by_all moves (new_mesh info configs)) (new_broker info)
