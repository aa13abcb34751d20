-- the lines so far, then those that are left, are all
use Rattle.std.proofs.Common.{◌≡◌, ◌++◌, length, map}
use Rattle.std.specs.List.{flat_map}
use Rattle.nats_spelling.specs.Cut.{lines_of}
use Rattle.nats_rpc_script.specs.Lines.{turned, kind_of}
use Rattle.nats_rpc_script.proofs.lines.push_lines.Given as goal

abbrev pub invariant-lines : goal.invariant-lines
invariant-lines l = record {
  text : l.out.items ++ flat_map turned (lines_of l.rest) ≡ l.initial.out.items ++ flat_map turned (lines_of l.lines);
  asked : l.kinds.items ++ map kind_of (lines_of l.rest) ≡ l.initial.kinds.items ++ map kind_of (lines_of l.lines);
}

abbrev pub decreases-lines : goal.decreases-lines
decreases-lines l = length l.rest
