-- Where slots are made anew nothing is remembered.
use Rattle.std.proofs.Common.{map}
use Rattle.nats_interests.specs.Index.{pattern_of}
use Rattle.nats_interests.proofs.Remembered.{fresh}
use Rattle.nats_interests.proofs.interests.fit_slots.Goals as goal

pub returns-then-slots-wanted : goal.returns-then-slots-wanted
returns-then-slots-wanted c = fresh (map pattern_of c.args.rows.now) c.restart.new.self c.restart.ensures
