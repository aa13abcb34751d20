-- `parse` reads the grammar's number.
use Rattle.std.proofs.Common.{◌∙◌}
use Rattle.nats_lines.proofs.Numbers.{number_read}
use Rattle.nats_lines.proofs.head.number.Goals as goal

pub returns-in-None : goal.returns-in-None
returns-in-None c = c.ok.ensures.value ∙ number_read c.args.text.now c.parse.result c.parse.ensures.value.0
