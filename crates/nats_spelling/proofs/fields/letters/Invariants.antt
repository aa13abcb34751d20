-- what was read, then what the rest spells, is what the field spells
use Rattle.std.proofs.Common.{◌≡◌, length}
use Rattle.nats_spelling.specs.Spelling.{letters}
use Rattle.nats_spelling.proofs.Spelled.{onto_front}
use Rattle.nats_spelling.proofs.fields.letters.Given as goal

abbrev pub invariant-loop-rest : goal.invariant-loop-rest
invariant-loop-rest l = letters l.field ≡ onto_front l.bytes.items (letters l.rest)

abbrev pub decreases-loop-rest : goal.decreases-loop-rest
decreases-loop-rest l = length l.rest
