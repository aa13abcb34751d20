-- No bytes.
use Rattle.nats_broker_text.proofs.Fronts.{remembers_none}
use Rattle.nats_broker_text.proofs.unread.Unread.new.Goals as goal

pub invariant_of-result : goal.invariant_of-result
invariant_of-result c = rw c.new.ensures remembers_none
