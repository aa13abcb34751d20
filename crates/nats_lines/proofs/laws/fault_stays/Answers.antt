use Rattle.nats_lines.proofs.Fronts.{fault_fits, fault_more}
use Rattle.nats_lines.proofs.laws.fault_stays.Goals as goal

pub returns : goal.returns
returns c = λ bytes more n is. (fault_fits bytes n is, fault_more bytes more n is)
