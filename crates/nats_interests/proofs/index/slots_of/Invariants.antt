-- those so far are empty
use Rattle.nats_interests.specs.Index.{AreEmpty}
use Rattle.nats_interests.proofs.index.slots_of.Given as goal

abbrev pub invariant-loop : goal.invariant-loop
invariant-loop l = AreEmpty l.slots.items
