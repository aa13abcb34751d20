-- The last run says so.
use Rattle.std.proofs.Common.{arith, false}
use Rattle.nats_tickets.proofs.Sorts.{last_at, last_none}
use Rattle.nats_tickets.proofs.kinds.last_kind.Goals as goal

pub returns-then-count-eq0 : goal.returns-then-count-eq0
returns-then-count-eq0 c = last_none c.args.runs.now (omega (arith, c.if-count-eq0.true))

pub returns : goal.returns
returns c = last_at false c.args.runs.now _ _ (omega (arith, c.if-count-eq0.false))
