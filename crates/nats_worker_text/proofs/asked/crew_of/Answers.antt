-- Words that are not three ask for no workers.
use Rattle.std.specs.String.{string_bytes}
use Rattle.nats_worker_text.proofs.Counts.{fewer_none, more_none}
use Rattle.nats_worker_text.proofs.asked.crew_of.Goals as goal

pub returns-in_default-clause-exact : goal.returns-in_default-clause-exact
returns-in_default-clause-exact c = fewer_none string_bytes c.args.words.now c.in_default.len_below

pub returns-in_default-2-clause-exact : goal.returns-in_default-2-clause-exact
returns-in_default-2-clause-exact c = more_none string_bytes c.args.words.now c.in_default.len_at_least
