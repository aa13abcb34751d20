-- those that are left are dropped behind those that were dropped so far
use Rattle.std.proofs.Common.{◌≡◌, ◌≤◌, ◌+◌, ◌++◌, ℕ, length, map}
use Rattle.std.specs.VecDeque.{deque_len, deque_capacity}
use Rattle.nats_history.specs.declared.call.CallReply.TheVariants as replies
use Rattle.nats_history.specs.Tickets.{replied, ticket_in}
use Rattle.nats_tickets.proofs.tickets.drop_asking.Given as goal

abbrev pub invariant-asking : goal.invariant-asking
invariant-asking l = record {
  ready : l.ready.items ++ replied replies.Dropped (map ticket_in l.asking)
      ≡ l.initial.ready.items ++ replied replies.Dropped (map ticket_in l.initial.asking);
  room : (others : ℕ) → deque_len l.initial.ready + (length l.initial.asking + others) ≤ deque_capacity l.initial.ready
      → deque_len l.ready + (length l.asking + others) ≤ deque_capacity l.ready;
  fits : deque_len l.ready + length l.asking ≤ deque_capacity l.ready;
}

abbrev pub decreases-asking : goal.decreases-asking
decreases-asking l = length l.asking
