-- the accepted calls among those before this one, no more than these
use Rattle.std.proofs.Common.{◌≡◌, ◌≤◌, take, count_by}
use Rattle.nats_bulk.specs.Summary.{was_accepted}
use Rattle.nats_bulk.proofs.sums.calls.Given as goal

abbrev pub invariant-loop-reply : goal.invariant-loop-reply
invariant-loop-reply l = (l.count ≡ count_by was_accepted (take l.reply-index l.rows)) × (l.count ≤ l.reply-index)
