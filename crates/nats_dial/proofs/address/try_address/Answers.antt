-- The pool is told how it went.
use Rattle.nats_dial.proofs.address.try_address.Goals as goal

pub returns-in-Ok-clause-tries : goal.returns-in-Ok-clause-tries
returns-in-Ok-clause-tries g c = (c.reach.new.pool, c.in-Ok.ensures.reaches, c.note.ensures.counts)

pub returns-in-Err-clause-tries : goal.returns-in-Err-clause-tries
returns-in-Err-clause-tries g c = (c.in-Err.error, c.reach.new.pool, c.in-Err.ensures.reaches, c.count.ensures)
