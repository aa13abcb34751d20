-- the fields before these were told
use Rattle.nats_client_text.specs.Law.{HaveTexts}
use Rattle.nats_mesh.proofs.told.tell_headers.Given as goal

abbrev pub invariant-loop-values : goal.invariant-loop-values
invariant-loop-values l = HaveTexts l.values-iterator → HaveTexts l.headers
