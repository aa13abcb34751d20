-- what is printed, then the fields that are left, is all
use Rattle.std.proofs.Common.{◌≡◌, ◌++◌}
use Rattle.std.specs.List.{flat_map}
use Rattle.nats_message_text.specs.Printed.{header_fields}
use Rattle.nats_message_text.proofs.message.push_fields.Given as goal

abbrev pub invariant-loop-name : goal.invariant-loop-name
invariant-loop-name l = l.out.items ++ flat_map header_fields l.name-iterator ≡ l.initial.out.items ++ flat_map header_fields l.headers
