-- Two words, and more than three, ask for no script.
use Rattle.std.specs.String.{string_bytes}
use Rattle.nats_replay.proofs.Outcomes.{two_not_asked, more_not_asked}
use Rattle.nats_replay.proofs.asked.asked_of.Goals as goal

pub returns-in_default-2-clause-exact : goal.returns-in_default-2-clause-exact
returns-in_default-2-clause-exact c =
    two_not_asked string_bytes c.args.words.now c.in_default.len_at_least c.in_default.len_below

pub returns-in_default-3-clause-exact : goal.returns-in_default-3-clause-exact
returns-in_default-3-clause-exact c = more_not_asked string_bytes c.args.words.now c.in_default.len_at_least
