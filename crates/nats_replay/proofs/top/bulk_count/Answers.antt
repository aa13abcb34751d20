-- Words that are not two ask for no list.
use Rattle.std.specs.String.{string_bytes}
use Rattle.nats_replay.proofs.Outcomes.{fewer_count_none, more_count_none}
use Rattle.nats_replay.proofs.top.bulk_count.Goals as goal

pub returns-in_default-clause-exact : goal.returns-in_default-clause-exact
returns-in_default-clause-exact c = fewer_count_none string_bytes c.args.words.now c.in_default.len_below

pub returns-in_default-2-clause-exact : goal.returns-in_default-2-clause-exact
returns-in_default-2-clause-exact c = more_count_none string_bytes c.args.words.now c.in_default.len_at_least
