-- The flush is on its way.
use Rattle.std.proofs.Common.{◌≡◌, ℕ, List, ◌++◌}
use Rattle.nats_dial.specs.Lines.{Took}
use Rattle.nats_core.specs.Calls.{parts_in}
use Rattle.nats_live.specs.Flow.{Flushes}
use Rattle.nats_live.proofs.Flushing.{FlushesOn}
use Rattle.nats_live.proofs.publishing.flush.Given as goal

abbrev pub invariant-writes : goal.invariant-writes
invariant-writes g l = record {
  next : (goal.iterator-writes g).can_next l.iterator';
  finite : (goal.iterator-writes g).is_finite l.iterator';
  far : (text took head : List ℕ) → l.ticket ≡ 1 → Flushes text took l.fn.core.session
      → Took (head ++ took) (g.T.LinkWrite.write_told l.fn.write)
      → FlushesOn text head (parts_in l.fn.core).link.is_up l.core.session (g.T.LinkWrite.write_told l.write);
}
