-- What a list of turns comes to, by whether each may come.
use Rattle.std.proofs.Common.{◌≡◌, ℕ, List, Option, Some, None, sym, ap, ◌∙◌}
use Rattle.nats_broker.specs.declared.info.BrokerInfo.{BrokerInfo}
use Rattle.nats_broker.specs.declared.turn.BrokerTurn.{BrokerTurn}
use Rattle.nats_broker.specs.declared.rows.PeerRow.{PeerRow}
use Rattle.nats_broker.specs.Playing.{new_broker, played, out_of_turn_from}
use Rattle.nats_broker.specs.Routes.{rows_of}
use Rattle.nats_route_script.specs.declared.top.RouteEnding.TheVariants.{Rows, OutOfTurn}
use Rattle.nats_route_script.specs.declared.top.RouteOutput.{RouteOutput}
use Rattle.nats_route_script.specs.Output.{loopback, output_by, output_of_turns}
use Rattle.nats_route_script.specs.Printed.{printed, out_of_turn_text}

abbrev with_rows : List ℕ → RouteOutput
with_rows text = record { ending = Rows; text = text }

abbrev with_turn : List ℕ → RouteOutput
with_turn text = record { ending = OutOfTurn; text = text }

-- the rows of turns that may all come
pub rows_output : (max : ℕ) (info : BrokerInfo) (turns : List BrokerTurn) (rows : List PeerRow) (text : List ℕ) (out : RouteOutput) → info ≡ loopback max
    → out_of_turn_from 1 turns (new_broker info) ≡ None → rows ≡ rows_of (played turns (new_broker info)) → text ≡ printed rows
    → out ≡ record { ending = Rows; text = text } → out ≡ output_of_turns (loopback max) turns
rows_output max info turns rows text out same none are prints is =
    is ∙ ap with_rows (prints ∙ ap printed are) ∙ ap (output_by info turns) (sym none)
    ∙ ap (λ (i : BrokerInfo). output_of_turns i turns) same

-- the first turn that may not come
pub turn_output : (max : ℕ) (info : BrokerInfo) (turns : List BrokerTurn) (place : ℕ) (text : List ℕ) (out : RouteOutput) → info ≡ loopback max
    → out_of_turn_from 1 turns (new_broker info) ≡ Some place → text ≡ out_of_turn_text place
    → out ≡ record { ending = OutOfTurn; text = text } → out ≡ output_of_turns (loopback max) turns
turn_output max info turns place text out same some prints is =
    is ∙ ap with_turn prints ∙ ap (output_by info turns) (sym some)
    ∙ ap (λ (i : BrokerInfo). output_of_turns i turns) same
