use Rattle.std.proofs.Common.{◌≡◌}
use Rattle.nats_header.specs.Headers.{values_of}
use Rattle.nats_header.proofs.fields.values_under.Given as goal

abbrev pub invariant-loop-name : goal.invariant-loop-name
invariant-loop-name l = values_of l.name-iterator l.key ≡ values_of l.table.entries l.key
