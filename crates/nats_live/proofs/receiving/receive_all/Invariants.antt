-- So many messages were taken and printed, and the link gave and took so much.
use Rattle.std.proofs.Common.{◌≡◌, ◌≤◌, ℕ, List, [], length}
use Rattle.std.specs.Prelude.{IsTrue}
use Rattle.nats_dial.specs.Lines.{Took}
use Rattle.nats_lines.specs.Operations.{Operation}
use Rattle.nats_core.specs.Calls.{parts_in}
use Rattle.nats_live.specs.Flow.{Receives}
use Rattle.nats_live.proofs.Ends.{RoundsOn}
use Rattle.nats_live.proofs.receiving.receive_all.Given as goal

abbrev pub invariant-rounds : goal.invariant-rounds
invariant-rounds g l = record {
  next : (goal.iterator-rounds g).can_next l.iterator';
  finite : (goal.iterator-rounds g).is_finite l.iterator';
  len : length l.buf ≡ length l.fn.buf;
  some : 1 ≤ l.wanted;
  far : (subject joined head : List ℕ) (first : List Operation)
      → Receives subject joined first [] [] 0 l.fn.core.session
      → IsTrue (parts_in l.fn.core).link.is_up → Took head (g.T.LinkWrite.write_told l.fn.write)
      → RoundsOn subject joined first head l.count l.wanted l.text.items l.core.session
      (g.L.LinkRead.read_told l.fn.read)
      (g.L.LinkRead.read_told l.read) (g.T.LinkWrite.write_told l.write);
}
