use Rattle.std.proofs.Common.{◌≡◌}
use Rattle.nats_outside.specs.Counts.{RoseBy}
use Rattle.nats_history.specs.declared.call.TakeReply.TheVariants as takes
use Rattle.nats_client.proofs.subscriber.Subscriber.next_within.Given as goal

abbrev pub invariant-loop : goal.invariant-loop
invariant-loop g l =
    (l.self.made ≡ l.initial.self.made) × (l.reply ≡ takes.Empty)
    × RoseBy l.counter l.initial.self.empties l.self.empties
