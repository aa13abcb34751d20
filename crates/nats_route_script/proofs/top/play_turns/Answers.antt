-- The rows, or the first turn that may not come, are what the turns come to.
use Rattle.std.proofs.Common.{ap, ◌∙◌}
use Rattle.nats_route_script.specs.Printed.{printed}
use Rattle.nats_route_script.proofs.Outputs.{rows_output, turn_output}
use Rattle.nats_route_script.proofs.top.play_turns.Goals as goal

pub returns-in_ok-rows_text-in-Ok : goal.returns-in_ok-rows_text-in-Ok
returns-in_ok-rows_text-in-Ok c =
    let text = c.in_ok-rows_text-in-Ok in
    rows_output c.args.max_payload c.loopback.result c.args.turns.now c.in-Ok.rows.items text.field-0.items c.output.result c.loopback.ensures
    c.in-Ok.ensures.0 c.in-Ok.ensures.1 (text.ensures ∙ ap printed c.as_slice.ensures.value) c.output.ensures

pub returns-in_ok-out_of_turn_text-in-Err-OutOfTurn : goal.returns-in_ok-out_of_turn_text-in-Err-OutOfTurn
returns-in_ok-out_of_turn_text-in-Err-OutOfTurn c =
    let text = c.in_ok-out_of_turn_text-in-Err-OutOfTurn in
    turn_output c.args.max_payload c.loopback.result c.args.turns.now c.in-Err-OutOfTurn.place text.field-0.items c.output-in-Err-OutOfTurn.result
    c.loopback.ensures (rw c.in-Err-OutOfTurn.field-0-is at c.in-Err-OutOfTurn.ensures) text.ensures c.output-in-Err-OutOfTurn.ensures
