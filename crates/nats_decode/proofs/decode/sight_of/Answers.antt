-- What stands at the front follows from the line there.
use Rattle.std.proofs.Common.{sym, Some, None}
use Rattle.nats_lines.proofs.Fronts.{sight_by_cut}
use Rattle.nats_lines.proofs.Lines.{cut_by_search}
use Rattle.nats_decode.proofs.decode.sight_of.Goals as goal

pub sight_at-requires-clause-cut : goal.sight_at-requires-clause-cut
sight_at-requires-clause-cut c = cut_by_search c.args.bytes.now (Some c.in-Some.end) c.in-Some.ensures

pub returns-in-None : goal.returns-in-None
returns-in-None c = sym (sight_by_cut c.args.bytes.now None (sym (cut_by_search c.args.bytes.now None c.in-None.ensures)))
