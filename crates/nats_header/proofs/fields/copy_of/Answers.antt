-- The copied entries are the same.
use Rattle.nats_header.proofs.Entries.{cloned}
use Rattle.nats_header.proofs.fields.copy_of.Goals as goal

pub returns : goal.returns
returns c = cloned c.args.table.now.entries _ c.in_ok-clone.ensures.cases
