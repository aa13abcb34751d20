-- One slot gets a place.
use Rattle.std.proofs.lemmas.Result.{on_ok_weaker}
use Rattle.std.proofs.Common.{sym, ◌∙◌, ap, slice_set}
use Rattle.nats_interests.proofs.Remembered.{put_at, put_past}
use Rattle.nats_interests.proofs.index.push_slot.Goals as goal

pub returns-then-slots-slot-clause-ok : goal.returns-then-slots-slot-clause-ok
returns-then-slots-slot-clause-ok c = sym (put_past c.args.slots.now c.args.slot c.args.place c.if-slots-slot.true)

pub returns-clause-ok : goal.returns-clause-ok
returns-clause-ok c = on_ok_weaker c.push.result (λ is.
    ap (λ new. slice_set c.args.slots.now c.args.slot new) is
    ∙ put_at c.args.slots.now c.args.slot c.args.place c.index-slots-slot.result c.if-slots-slot.false) c.push.ensures.ok
