-- Those that stay are kept, and nothing is remembered.
use Rattle.std.proofs.Common.{subst, sym, map}
use Rattle.nats_interests.specs.Index.{pattern_of}
use Rattle.nats_interests.specs.Interests.{AreKept}
use Rattle.nats_interests.proofs.Kept.{without_kept}
use Rattle.nats_interests.proofs.Remembered.{fresh}
use Rattle.nats_interests.proofs.interests.Interests.close_all.Goals as goal

pub invariant_of-self : goal.invariant_of-self
invariant_of-self c = (
  subst AreKept (sym c.drop_peer.ensures) (without_kept c.args.peer c.self.inside.rows.items c.self.invariant.0),
  fresh (map pattern_of c.drop_peer.new.rows.items) c.forget.new.self c.forget.ensures,
)
