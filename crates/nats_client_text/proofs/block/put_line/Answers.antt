-- The field of a line that is text.
use Rattle.std.proofs.Common.{option_map, ap}
use Rattle.nats_block.specs.Fields.{with_field}
use Rattle.nats_client_text.proofs.Lines.{field_of_utf8, no_field}
use Rattle.nats_client_text.proofs.block.put_line.Goals as goal

pub returns-in-Ok : goal.returns-in-Ok
returns-in-Ok c = rw (field_of_utf8 c.args.line.now c.in-Ok.line.now c.in-Ok.ensures.cases.0 c.in-Ok.ensures.cases.1) c.put_text.ensures

pub returns-in-Err : goal.returns-in-Err
returns-in-Err c = ap (option_map (with_field c.args.headers.now)) (no_field c.args.line.now c.in-Err.ensures.cases.0)
