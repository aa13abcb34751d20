-- The link took more of the text.
use Rattle.std.proofs.Common.{ℕ, List, ◌++◌}
use Rattle.nats_dial.specs.Lines.{Took}
use Rattle.nats_lines.specs.Operations.{Operation}
use Rattle.nats_core.specs.Calls.{parts_in}
use Rattle.nats_live.specs.Flow.{Receives}
use Rattle.nats_live.proofs.Rounds.{WritesOn}
use Rattle.nats_live.proofs.receiving.write_all.Given as goal

abbrev pub invariant-writes : goal.invariant-writes
invariant-writes g l = record {
  next : (goal.iterator-writes g).can_next l.iterator';
  finite : (goal.iterator-writes g).is_finite l.iterator';
  far : (subject joined took head : List ℕ) (first since : List Operation) (taken : ℕ)
      → Receives subject joined first since took taken l.fn.core.session
      → Took (head ++ took) (g.T.LinkWrite.write_told l.fn.write)
      → WritesOn subject joined first since took taken head (parts_in l.fn.core).link.is_up l.core.session
      (g.T.LinkWrite.write_told l.fn.write) (g.T.LinkWrite.write_told l.write);
}
