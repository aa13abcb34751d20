use Rattle.nats_names.proofs.cause.CauseDisplay.fmt.Goals as goal

pub returns-in-Payload-clause-writes : goal.returns-in-Payload-clause-writes
returns-in-Payload-clause-writes g c = rw c.in-Payload.is c.write-in-Payload.ensures.writes
