-- the texts so far stand behind what was there
use Rattle.std.proofs.Common.{◌≡◌, ◌++◌, take}
use Rattle.nats_commands.specs.Commands.{command_texts}
use Rattle.nats_commands.proofs.command.append_each.Given as goal

abbrev pub invariant-loop-op : goal.invariant-loop-op
invariant-loop-op l = l.out ≡ l.fn.out ++ command_texts (take l.op-index l.ops)
