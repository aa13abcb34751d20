use Rattle.nats_lines.proofs.Fronts.{there_more, behind_more}
use Rattle.nats_lines.proofs.laws.there_stays.Goals as goal

pub returns : goal.returns
returns c = λ count bytes more there. (there_more count bytes more there, behind_more count bytes more there)
