-- the events so far are printed
use Rattle.std.proofs.Common.{◌≡◌, ◌++◌, take}
use Rattle.std.specs.List.{flat_map}
use Rattle.nats_print.specs.Printed.{event_line}
use Rattle.nats_print.proofs.print.push_events.Given as goal

abbrev pub invariant-loop-place : goal.invariant-loop-place
invariant-loop-place l = l.out.items ≡ l.initial.out.items ++ flat_map event_line (take l.place-index l.events)
