-- What the bytes of a script of a broker come to.
use Rattle.std.specs.Prelude.{ℕ, List, Option, Some, None, codes}
use Rattle.nats_broker.specs.declared.info.BrokerInfo.{BrokerInfo}
use Rattle.nats_broker.specs.declared.turn.BrokerTurn.{BrokerTurn}
use Rattle.nats_broker.specs.Playing.{new_broker, played, out_of_turn_from}
use Rattle.nats_broker.specs.Routes.{rows_of}
use Rattle.nats_route_script.specs.declared.script.RouteScript.{RouteScript}
use Rattle.nats_route_script.specs.declared.script.RouteScript.TheVariants.{Good, Bad}
use Rattle.nats_route_script.specs.declared.top.RouteEnding.TheVariants.{Rows, Unreadable, OutOfTurn}
use Rattle.nats_route_script.specs.declared.top.RouteOutput.{RouteOutput}
use Rattle.nats_route_script.specs.Printed.{printed, unreadable_text, out_of_turn_text}
use Rattle.nats_route_script.specs.Script.{script}

-- the broker that a script is played on
abbrev pub loopback : ℕ → BrokerInfo
loopback max = record { server_id = codes "LOOPBACK"; max_payload = max }

-- the first turn that may not come is named; where each may, the peers are printed as the last turn leaves them
abbrev pub output_by : BrokerInfo → List BrokerTurn → Option ℕ → RouteOutput
output_by info turns None = record { ending = Rows; text = printed (rows_of (played turns (new_broker info))) }
output_by info turns (Some place) = record { ending = OutOfTurn; text = out_of_turn_text place }

abbrev pub output_of_turns : BrokerInfo → List BrokerTurn → RouteOutput
output_of_turns info turns = output_by info turns (out_of_turn_from 1 turns (new_broker info))

abbrev pub output_of_script : RouteScript → RouteOutput
output_of_script (Good max turns) = output_of_turns (loopback max) turns
output_of_script (Bad line) = record { ending = Unreadable; text = unreadable_text line }

-- what bytes print, and how they end
abbrev pub output : List ℕ → RouteOutput
output bytes = output_of_script (script bytes)
