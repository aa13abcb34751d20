-- A look-up in the index map is one in the list.
use Rattle.std.proofs.Common.{◌∙◌}
use Rattle.nats_header.proofs.Entries.{values_of-found, values_of-absent}
use Rattle.nats_header.proofs.fields.values_in.Goals as goal

pub returns-in-Some : goal.returns-in-Some
returns-in-Some c =
    c.as_slice.ensures ∙ values_of-found c.args.table.now.entries c.args.name.now _ c.in-Some.ensures.value

pub returns-in-None : goal.returns-in-None
returns-in-None c = values_of-absent c.args.table.now.entries c.args.name.now c.in-None.ensures.value
