-- The place lies within the bytes.
use Rattle.std.proofs.Common.{arith}
use Rattle.nats_lines.proofs.Scans.{fits_there}
use Rattle.nats_unread.proofs.unread.Unread.untested.Goals as goal

pub overflow_add-tested : goal.overflow_add-tested
overflow_add-tested c =
    omega (arith, fits_there c.self.inside.found.place c.self.inside.found.ended c.self.inside.buf c.if-self.true c.self.invariant.0, c.len-len.ensures.value, c.len-len.ensures.bound)
