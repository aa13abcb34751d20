use Rattle.nats_lines.proofs.Fronts.{there_next}
use Rattle.nats_lines.proofs.laws.there_next.Goals as goal

pub returns : goal.returns
returns c = there_next
