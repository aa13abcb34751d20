use Rattle.std.proofs.Common.{◌≡◌, ◌++◌, drop}
use Rattle.std.specs.List.{flat_map}
use Rattle.nats_header.specs.Block.{value_line, field_lines}
use Rattle.nats_header.proofs.lines.write_lines.Given as goal

abbrev pub invariant-loop-value : goal.invariant-loop-value
invariant-loop-value l =
    l.bytes.items ++ flat_map (value_line l.name) (drop l.value-index l.values) ≡ l.fn.bytes.items ++ field_lines (l.name, l.values)
