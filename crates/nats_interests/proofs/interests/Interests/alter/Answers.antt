-- Those that stay are kept; where one closed nothing is remembered.
use Rattle.std.proofs.Common.{subst, sym, map}
use Rattle.nats_interests.specs.Index.{pattern_of, Remembers}
use Rattle.nats_interests.specs.Interests.{AreKept}
use Rattle.nats_interests.proofs.Kept.{altered_kept}
use Rattle.nats_interests.proofs.Remembered.{fresh}
use Rattle.nats_interests.proofs.interests.Interests.alter.Goals as goal

pub invariant_of-self : goal.invariant_of-self
invariant_of-self c = (
  subst AreKept (sym c.alter_found.ensures.rows) (altered_kept c.args.peer c.args.sid c.args.what c.self.inside.rows.items c.self.invariant.0),
  fresh (map pattern_of c.alter_found.new.rows.items) c.forget.new.self c.forget.ensures,
)

pub invariant_of-self-in-Some : goal.invariant_of-self-in-Some
invariant_of-self-in-Some c = (
  subst AreKept (sym c.alter_found.ensures.rows) (altered_kept c.args.peer c.args.sid c.args.what c.self.inside.rows.items c.self.invariant.0),
  subst (λ ps. Remembers ps c.self.inside.index) (sym (c.alter_found.ensures.patterns c.if-alter_found.false)) c.self.invariant.1,
)

pub invariant_of-self-in_default : goal.invariant_of-self-in_default
invariant_of-self-in_default c = (
  subst AreKept (sym c.alter_found.ensures.rows) (altered_kept c.args.peer c.args.sid c.args.what c.self.inside.rows.items c.self.invariant.0),
  subst (λ ps. Remembers ps c.self.inside.index) (sym (c.alter_found.ensures.patterns c.if-alter_found.false)) c.self.invariant.1,
)
