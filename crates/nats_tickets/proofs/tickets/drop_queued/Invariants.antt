-- the tickets that are left settle behind those that were settled so far
use Rattle.std.proofs.Common.{◌≡◌, ◌≤◌, ◌+◌, ◌++◌, suc, ℕ, length}
use Rattle.std.specs.VecDeque.{deque_len, deque_capacity}
use Rattle.nats_history.specs.Tickets.{queue_dropped}
use Rattle.nats_tickets.specs.Kept.{pending}
use Rattle.nats_tickets.proofs.tickets.drop_queued.Given as goal

abbrev pub invariant-queued : goal.invariant-queued
invariant-queued l = record {
  ready : l.ready.items ++ queue_dropped (suc l.ticket) l.queued.items
      ≡ l.initial.ready.items ++ queue_dropped (suc l.initial.handled) l.initial.queued.items;
  room : (others : ℕ) → deque_len l.initial.ready + (others + pending l.initial.queued.items) ≤ deque_capacity l.initial.ready
      → deque_len l.ready + (others + pending l.queued.items) ≤ deque_capacity l.ready;
  fits : deque_len l.ready + pending l.queued.items ≤ deque_capacity l.ready;
  numbers : l.ticket + deque_len l.queued ≡ l.given;
}

abbrev pub decreases-queued : goal.decreases-queued
decreases-queued l = length l.queued.items
