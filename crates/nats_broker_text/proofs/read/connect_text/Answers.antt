-- By the first line.
use Rattle.std.proofs.Common.{◌∙◌, sym}
use Rattle.nats_lines.specs.Operations.{cut_line}
use Rattle.nats_broker_text.proofs.Fronts.{by_line, no_line}
use Rattle.nats_broker_text.proofs.read.connect_text.Goals as goal

pub returns-in-Some-clause-behind : goal.returns-in-Some-clause-behind
returns-in-Some-clause-behind c =
    c.behind_word.ensures.behind ∙ by_line (cut_line c.args.text.now) c.in-Some.line.now c.in-Some.ensures.line

pub returns-in-None-clause-behind : goal.returns-in-None-clause-behind
returns-in-None-clause-behind c = no_line (cut_line c.args.text.now) c.in-None.ensures.line
