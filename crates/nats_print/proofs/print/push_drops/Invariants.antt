-- the drops so far are printed
use Rattle.std.proofs.Common.{◌≡◌, ◌++◌, take}
use Rattle.std.specs.List.{flat_map}
use Rattle.nats_print.specs.Printed.{drop_line}
use Rattle.nats_print.proofs.print.push_drops.Given as goal

abbrev pub invariant-loop-place : goal.invariant-loop-place
invariant-loop-place l = l.out.items ≡ l.initial.out.items ++ flat_map drop_line (take l.place-index l.drops)
