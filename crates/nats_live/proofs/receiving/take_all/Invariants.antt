-- The messages taken so far were printed.
use Rattle.std.proofs.Common.{ℕ, List}
use Rattle.nats_lines.specs.Operations.{Operation}
use Rattle.nats_core.specs.Calls.{parts_in}
use Rattle.nats_live.specs.Flow.{Receives}
use Rattle.nats_live.proofs.Rounds.{TakesSoFar}
use Rattle.nats_live.proofs.receiving.take_all.Given as goal

abbrev pub invariant-takes : goal.invariant-takes
invariant-takes l = record {
  far : (subject joined took : List ℕ) (first since : List Operation) (taken : ℕ)
      → Receives subject joined first since took taken l.fn.core.session
      → TakesSoFar subject joined first since took taken (parts_in l.fn.core).link.is_up l.wanted l.fn.text.items
      l.left
      l.core.session l.text.items;
}

abbrev pub decreases-takes : goal.decreases-takes
decreases-takes l = l.left
