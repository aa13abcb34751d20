use Rattle.nats_lines.proofs.Reading.{operations_cut}
use Rattle.nats_lines.proofs.laws.cut_anywhere.Goals as goal

pub returns : goal.returns
returns c = operations_cut
