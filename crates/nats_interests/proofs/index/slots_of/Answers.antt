-- One more is empty.
use Rattle.std.proofs.Common.{subst, sym}
use Rattle.nats_interests.specs.Index.{AreEmpty}
use Rattle.nats_interests.proofs.Remembered.{empty_more}
use Rattle.nats_interests.proofs.index.slots_of.Goals as goal

pub loop-preserved : goal.loop-preserved
loop-preserved c = subst AreEmpty (sym c.in_ok-push_empty.ensures) (empty_more c.loop.slots.items c.loop.invariant)
