-- some due steps were played
use Rattle.std.proofs.Common.{◌≡◌, ℕ}
use Rattle.nats_history.specs.Schedule.{most_due}
use Rattle.nats_core.specs.Journal.{due_rounds}
use Rattle.nats_core.proofs.plays.play_due.Given as goal

abbrev pub invariant-due : goal.invariant-due
invariant-due l = (rounds : ℕ) × (l.handler ≡ due_rounds rounds l.initial.handler)

abbrev pub decreases-due : goal.decreases-due
decreases-due l = most_due l.handler.parts
