use Rattle.nats_lines.proofs.Fronts.{front_takes, front_fits, front_more}
use Rattle.nats_lines.proofs.laws.got_stays.Goals as goal

pub returns : goal.returns
returns c = λ bytes more op n is. (front_takes bytes op n is, front_fits bytes op n is, front_more bytes more op n is)
