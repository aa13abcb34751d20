-- the turns of the entries so far
use Rattle.std.proofs.Common.{◌≡◌}
use Rattle.nats_core.specs.Journal.{turns_of}
use Rattle.nats_thread_text.proofs.output.turns_in.Given as goal

abbrev pub invariant-entries : goal.invariant-entries
invariant-entries l = l.turns.items ≡ turns_of l.yielded
