-- the parts so far stand behind what was there
use Rattle.std.proofs.Common.{◌≡◌, ◌++◌, take}
use Rattle.nats_commands.specs.Commands.{joined}
use Rattle.nats_commands.proofs.command.append_all.Given as goal

abbrev pub invariant-loop-part : goal.invariant-loop-part
invariant-loop-part l = l.out ≡ l.fn.out ++ joined (take l.part-index l.parts)
