use Rattle.std.proofs.Common.{◌≡◌}
use Rattle.example_audit.proofs.crew.work.Given as goal

abbrev pub invariant-loop : goal.invariant-loop
invariant-loop g l = l.client.parts ≡ l.initial.client.parts
