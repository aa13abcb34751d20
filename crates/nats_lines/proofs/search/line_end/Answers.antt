-- What a test at one place tells.
use Rattle.std.proofs.Common.{arith}
use Rattle.nats_lines.proofs.Scans.{looked_end, end_paid}
use Rattle.nats_lines.proofs.search.line_end.Goals as goal

pub returns-clause-looked : goal.returns-clause-looked
returns-clause-looked g c =
    looked_end c.crlf_at-ended.result c.args.place c.args.buf.now (omega (arith, c.requires.within.1)) c.requires.clear c.crlf_at-ended.ensures.tells

pub returns-clause-paid : goal.returns-clause-paid
returns-clause-paid g c =
    omega (arith, end_paid c.crlf_at-ended.result c.args.place c.args.buf.now c.requires.within.0 c.requires.within.1, c.crlf_at-ended.ensures.step)
