-- those so far
use Rattle.std.proofs.Common.{◌≡◌, ◌++◌, filter, take}
use Rattle.nats_interests.specs.Index.{nows, is_match}
use Rattle.nats_interests.proofs.interests.push_all.Given as goal

abbrev pub invariant-loop-i : goal.invariant-loop-i
invariant-loop-i l = nows l.found.items ≡ nows l.fn.found.items ++ filter (is_match l.fn.subject) (take l.i-index l.fn.rows)
