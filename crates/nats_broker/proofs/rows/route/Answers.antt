-- The first turn that may not come.
use Rattle.std.proofs.Common.{◌≡◌, List}
use Rattle.std.specs.Prelude.{Err}
use Rattle.nats_broker.specs.declared.info.BrokerInfo.{BrokerInfo}
use Rattle.nats_broker.specs.declared.turn.BrokerTurn.{BrokerTurn}
use Rattle.nats_broker.specs.declared.turn.RouteError.{RouteError}
use Rattle.nats_broker.specs.declared.turn.RouteError.TheVariants as refused
use Rattle.nats_broker.specs.Playing.{BrokerSeen, new_broker}
use Rattle.nats_broker.specs.Routes.{Plays, Routes}
use Rattle.nats_broker.proofs.rows.route.Goals as goal

refused_so : (info : BrokerInfo) (turns : List BrokerTurn) (b new : BrokerSeen) (error : RouteError) → b ≡ new_broker info
    → Plays turns b (Err error) new → Routes info turns (Err error)
refused_so info turns b new (refused.OutOfTurn place) is plays = rw (← is) plays
refused_so info turns b new refused.NoMemory is plays = tt

pub returns : goal.returns
returns c =
    refused_so c.args.info c.args.turns.now c.in_ok-broker.broker c.play_all.new.broker c.in-Err.refused c.in_ok-broker.ensures c.in-Err.ensures
