use Rattle.nats_lines.proofs.Fronts.{behind_next}
use Rattle.nats_lines.proofs.laws.behind_next.Goals as goal

pub returns : goal.returns
returns c = behind_next
