-- No interest stands there.
use Rattle.std.proofs.lemmas.Option.{slice_get_past}
use Rattle.std.specs.Prelude.{slice_get}
use Rattle.nats_interests.specs.Index.{nows, is_match}
use Rattle.nats_interests.proofs.Remembered.{none_put}
use Rattle.nats_interests.proofs.interests.push_place.Goals as goal

pub returns-in-None : goal.returns-in-None
returns-in-None c = none_put (is_match c.args.subject.now) (nows c.args.found.now.items) (slice_get c.args.rows.now c.args.place) (slice_get_past c.args.rows.now c.args.place c.in-None.ensures.lookup.3)
