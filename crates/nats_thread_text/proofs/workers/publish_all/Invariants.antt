-- the client has the parts that it had
use Rattle.std.proofs.Common.{◌≡◌}
use Rattle.nats_thread_text.proofs.workers.publish_all.Given as goal

abbrev pub invariant-loop-done : goal.invariant-loop-done
invariant-loop-done g l = l.client.parts ≡ l.initial.client.parts
