-- The text is UTF-8, or says nothing.
use Rattle.nats_broker_text.proofs.Connecting.{by_text, no_text}
use Rattle.nats_broker_text.proofs.connect.read_wishes.Goals as goal

pub returns-in-Ok : goal.returns-in-Ok
returns-in-Ok c = rw (by_text c.args.text.now c.in-Ok.text.now c.in-Ok.ensures.cases.0 c.in-Ok.ensures.cases.1) c.read_text.ensures

pub returns-in-Err : goal.returns-in-Err
returns-in-Err c = no_text c.args.text.now c.in-Err.ensures.cases.0
