-- None is of that name.
use Rattle.std.proofs.Common.{subst, sym}
use Rattle.nats_interests.specs.Interests.{Finds}
use Rattle.nats_interests.specs.Changes.{changed}
use Rattle.nats_interests.proofs.Kept.{none_altered}
use Rattle.nats_interests.proofs.interests.alter_found.Goals as goal

pub returns-in-None-clause-rows : goal.returns-in-None-clause-rows
returns-in-None-clause-rows c = sym (none_altered c.args.peer c.args.sid (changed c.args.what) c.args.rows.now.items
    (subst (Finds c.args.peer c.args.sid c.args.rows.now.items) c.in-None.is c.requires.found) c.requires.kept.1)
