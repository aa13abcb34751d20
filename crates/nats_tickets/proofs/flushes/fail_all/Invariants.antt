-- what the marks that are left settle, behind what was settled so far, is what all of them do
use Rattle.std.proofs.Common.{◌≡◌, ◌≤◌, ◌+◌, ◌++◌, ℕ, length}
use Rattle.std.specs.VecDeque.{deque_len, deque_capacity}
use Rattle.nats_history.specs.declared.call.CallReply.TheVariants as replies
use Rattle.nats_history.specs.Tickets.{replied}
use Rattle.nats_tickets.specs.Kept.{tickets_of}
use Rattle.nats_tickets.proofs.flushes.fail_all.Given as goal

abbrev pub invariant-marks : goal.invariant-marks
invariant-marks l = record {
  ready : l.ready.items ++ replied replies.FlushFailed (tickets_of l.marks.items)
      ≡ l.initial.ready.items ++ replied replies.FlushFailed (tickets_of l.initial.marks.items);
  room : (others : ℕ) → deque_len l.initial.ready + (deque_len l.initial.marks + others) ≤ deque_capacity l.initial.ready
      → deque_len l.ready + (deque_len l.marks + others) ≤ deque_capacity l.ready;
  fits : deque_len l.ready + deque_len l.marks ≤ deque_capacity l.ready;
}

abbrev pub decreases-marks : goal.decreases-marks
decreases-marks l = length l.marks.items
