-- the messages among the replies before this one, no more than these
use Rattle.std.proofs.Common.{◌≡◌, ◌≤◌, take, count_by}
use Rattle.nats_bulk.specs.Summary.{got_message}
use Rattle.nats_bulk.proofs.sums.messages.Given as goal

abbrev pub invariant-loop-reply : goal.invariant-loop-reply
invariant-loop-reply l = (l.count ≡ count_by got_message (take l.reply-index l.rows)) × (l.count ≤ l.reply-index)
