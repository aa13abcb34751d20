use Rattle.nats_lines.proofs.Reading.{operations_end}
use Rattle.nats_lines.proofs.laws.operations_end.Goals as goal

pub returns : goal.returns
returns c = operations_end
