-- what the marks that are left settle, behind what was settled so far, is what all of them do
use Rattle.std.proofs.Common.{◌≡◌, ◌≤◌, ◌+◌, ◌++◌, ℕ, length}
use Rattle.std.specs.VecDeque.{deque_len, deque_capacity}
use Rattle.nats_history.specs.declared.call.CallReply.TheVariants as replies
use Rattle.nats_history.specs.Tickets.{flushed_by, left_by, replied}
use Rattle.nats_tickets.proofs.Marks.{seen}
use Rattle.nats_tickets.proofs.flushes.settle_reached.Given as goal

abbrev pub invariant-marks : goal.invariant-marks
invariant-marks l = record {
  left : left_by l.n (seen l.taken l.marks.items) ≡ left_by l.initial.n (seen l.initial.taken l.initial.marks.items);
  ready : l.ready.items ++ replied replies.Flushed (flushed_by l.n (seen l.taken l.marks.items))
      ≡ l.initial.ready.items ++ replied replies.Flushed (flushed_by l.initial.n (seen l.initial.taken l.initial.marks.items));
  room : (others : ℕ) → deque_len l.initial.ready + (deque_len l.initial.marks + others) ≤ deque_capacity l.initial.ready
      → deque_len l.ready + (deque_len l.marks + others) ≤ deque_capacity l.ready;
  fits : deque_len l.ready + deque_len l.marks ≤ deque_capacity l.ready;
}

abbrev pub decreases-marks : goal.decreases-marks
decreases-marks l = length l.marks.items
