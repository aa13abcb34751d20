-- One more place is looked at.
use Rattle.std.proofs.Common.{◌∙◌, ◌++◌, ap, drop, ◌+◌}
use Rattle.nats_interests.specs.Index.{nows, is_match, gathered}
use Rattle.nats_interests.proofs.Remembered.{gather_step}
use Rattle.nats_interests.proofs.interests.push_gathered.Goals as goal

pub loop-place-preserved : goal.loop-place-preserved
loop-place-preserved c =
    let test = is_match c.args.subject.now in
    let i = c.loop-place.place-index in
    ap (λ xs. xs ++ gathered test c.args.rows.now (drop (i + 1) c.args.places.now)) c.in_ok-push_place.ensures
    ∙ gather_step test c.args.rows.now (nows c.loop-place.found.items) c.args.places.now i c.loop-place-test.true
    ∙ c.loop-place.invariant
