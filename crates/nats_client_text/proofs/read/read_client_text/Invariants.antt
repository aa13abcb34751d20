-- the commands so far, and then what is read of the rest, are what is read
use Rattle.std.proofs.Common.{◌≡◌, length}
use Rattle.nats_client_text.specs.Grammar.{read_of}
use Rattle.nats_client_text.proofs.Reading.{all_onto, Begun}
use Rattle.nats_client_text.proofs.read.read_client_text.Given as goal

abbrev pub invariant-loop-left : goal.invariant-loop-left
invariant-loop-left l = (all_onto l.ops (read_of l.left) ≡ read_of l.fn.text) × Begun l.ops l.left l.fn.text

abbrev pub decreases-loop-left : goal.decreases-loop-left
decreases-loop-left l = length l.left
