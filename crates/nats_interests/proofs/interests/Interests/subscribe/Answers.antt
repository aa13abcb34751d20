-- One more of a name that none has.
use Rattle.std.proofs.Common.{subst, sym, ap, ◌∙◌, map}
use Rattle.std.specs.List.{list_any}
use Rattle.nats_interests.specs.Index.{pattern_of, Remembers}
use Rattle.nats_interests.specs.Interests.{is_of, AreKept}
use Rattle.nats_interests.proofs.Kept.{added}
use Rattle.nats_interests.proofs.interests.Interests.subscribe.Goals as goal

pub invariant_of-self-2 : goal.invariant_of-self-2
invariant_of-self-2 c =
    subst (λ rows. AreKept rows × Remembers (map pattern_of rows) c.self.inside.index) (sym c.in_ok-push.ensures.items)
    (added c.args.peer c.args.sid c.args.pattern c.args.group c.self.inside.rows.items c.self.inside.index
    (ap (list_any (is_of c.args.peer c.args.sid)) (sym c.as_slice.ensures.value) ∙ sym c.has.ensures ∙ c.if-has.false) c.self.invariant)
