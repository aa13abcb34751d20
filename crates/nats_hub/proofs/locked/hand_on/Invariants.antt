use Rattle.std.proofs.Common.{◌≡◌, length}
use Rattle.nats_hub.proofs.locked.hand_on.Given as goal

abbrev pub invariant-events : goal.invariant-events
invariant-events l = (l.core.is_kept ≡ l.initial.core.is_kept) × (l.core.entries ≡ l.initial.core.entries)

abbrev pub decreases-events : goal.decreases-events
decreases-events l = length l.core.session.events
