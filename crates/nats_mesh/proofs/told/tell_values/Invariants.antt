-- the values before this one were told
use Rattle.std.proofs.Common.{drop}
use Rattle.nats_client_text.specs.Law.{AreTexts}
use Rattle.nats_mesh.proofs.told.tell_values.Given as goal

abbrev pub invariant-loop-value : goal.invariant-loop-value
invariant-loop-value l = AreTexts (drop l.value-index l.values) → AreTexts l.values
