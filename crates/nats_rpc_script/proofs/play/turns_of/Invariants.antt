-- the turns so far
use Rattle.std.proofs.Common.{◌≡◌, take}
use Rattle.nats_core.specs.Journal.{turns_of}
use Rattle.nats_rpc_script.proofs.play.turns_of.Given as goal

abbrev pub invariant-loop-entry : goal.invariant-loop-entry
invariant-loop-entry l = l.turns.items ≡ turns_of (take l.entry-index l.journal)
