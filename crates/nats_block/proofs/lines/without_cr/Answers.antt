-- A CR at the end goes, and a line without one stays.
use Rattle.std.proofs.Common.{None, lit<}
use Rattle.std.proofs.lemmas.Str.Pattern.{strip_suffix_char}
use Rattle.nats_block.proofs.Cuts.{no_cr}
use Rattle.nats_block.proofs.lines.without_cr.Goals as goal

pub returns-in-None : goal.returns-in-None
returns-in-None c =
    no_cr c.args.line.now (strip_suffix_char 13 c.args.line.now None c.in-None.ensures.cases (lit< tt))
