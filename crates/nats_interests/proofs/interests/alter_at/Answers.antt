-- The interest at the place is the one of that name.
use Rattle.std.proofs.Common.{rules}
use Rattle.std.proofs.lemmas.Option.{get_or_from_slice_get}
use Rattle.nats_interests.specs.Changes.{changed}
use Rattle.nats_interests.proofs.Kept.{altered_at, removed_set, set_patterns}
use Rattle.nats_interests.proofs.interests.alter_at.Goals as goal

pub returns-then-is_open-clause-rows : goal.returns-then-is_open-clause-rows
returns-then-is_open-clause-rows c = search (rules, altered_at c.args.peer c.args.sid (changed c.args.what) c.args.rows.now.items c.args.place c.requires.stands.0 c.requires.stands.1 c.requires.stands.2 c.requires.kept, get_or_from_slice_get)

pub returns-then-is_open-clause-patterns : goal.returns-then-is_open-clause-patterns
returns-then-is_open-clause-patterns c = λ still. search (rules, set_patterns c.args.what c.args.rows.now.items c.args.place c.requires.stands.0 c.requires.stands.1, get_or_from_slice_get)

pub returns-clause-rows : goal.returns-clause-rows
returns-clause-rows c = search (rules, altered_at c.args.peer c.args.sid (changed c.args.what) c.args.rows.now.items c.args.place c.requires.stands.0 c.requires.stands.1 c.requires.stands.2 c.requires.kept, get_or_from_slice_get, removed_set)
