-- What the search finds.
use Rattle.std.proofs.Common.{◌∙◌}
use Rattle.nats_broker_text.proofs.Fronts.{found_is_line}
use Rattle.nats_broker_text.proofs.lines.has_line.Goals as goal

pub returns : goal.returns
returns c = c.is_some.ensures ∙ found_is_line c.args.text.now c.find.result c.find.ensures
