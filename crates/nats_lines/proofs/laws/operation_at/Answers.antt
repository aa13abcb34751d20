use Rattle.nats_lines.proofs.Reading.{operation_at}
use Rattle.nats_lines.proofs.laws.operation_at.Goals as goal

pub returns : goal.returns
returns c = operation_at
