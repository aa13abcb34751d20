-- Those at the places, and those behind what is remembered.
use Rattle.std.proofs.Common.{rules}
use Rattle.nats_interests.proofs.Remembered.{finds_all}
use Rattle.nats_interests.proofs.interests.Interests.matching.Goals as goal

pub returns : goal.returns
returns c = search (rules, finds_all c.args.subject.now c.self.inside.rows.items c.self.inside.index c.self.invariant.1)
