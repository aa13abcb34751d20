-- The byte before the first LF tells whether a line ends there.
use Rattle.std.proofs.Common.{◌<◌, arith}
use Rattle.nats_lines.proofs.Scans.{ends_by, none_by}
use Rattle.nats_lines.proofs.search.ends_line.Goals as goal

pub returns-clause-ends : goal.returns-clause-ends
returns-clause-ends g c =
    let past : c.args.place < c.args.at = omega (arith, c.requires.within, c.if-at-place.false) in
    ends_by c.crlf_at.result c.args.place c.args.at c.args.buf.now past c.requires.clear c.requires.first c.crlf_at.ensures.tells

pub returns-clause-none : goal.returns-clause-none
returns-clause-none g c =
    let past : c.args.place < c.args.at = omega (arith, c.requires.within, c.if-at-place.false) in
    none_by c.crlf_at.result c.args.place c.args.at c.args.buf.now past c.requires.clear c.requires.first c.crlf_at.ensures.tells
