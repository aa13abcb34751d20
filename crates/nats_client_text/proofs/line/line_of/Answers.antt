-- What a line says where it is text.
use Rattle.nats_client_text.proofs.Lines.{line_of_utf8, no_line}
use Rattle.nats_client_text.proofs.line.line_of.Goals as goal

pub returns-in-Ok : goal.returns-in-Ok
returns-in-Ok c = rw (line_of_utf8 c.args.line.now c.in-Ok.line.now c.in-Ok.ensures.cases.0 c.in-Ok.ensures.cases.1) (c.line_of_text.ensures)

pub returns-in-Err-clause-line : goal.returns-in-Err-clause-line
returns-in-Err-clause-line c = no_line c.args.line.now c.in-Err.ensures.cases.0
