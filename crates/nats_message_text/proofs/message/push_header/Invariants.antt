-- what is printed, then the values that are left, is all
use Rattle.std.proofs.Common.{◌≡◌, ◌++◌, drop}
use Rattle.std.specs.List.{flat_map}
use Rattle.nats_spelling.specs.Lines.{space}
use Rattle.nats_message_text.specs.Printed.{header_fields}
use Rattle.nats_spelling.specs.Spelling.{spelled}
use Rattle.nats_message_text.proofs.message.push_header.Given as goal

abbrev pub invariant-loop-value : goal.invariant-loop-value
invariant-loop-value l =
    l.out.items ++ flat_map (λ value. space ++ spelled l.name ++ space ++ spelled value) (drop l.value-index l.values)
    ≡ l.initial.out.items ++ header_fields (l.name, l.values)
