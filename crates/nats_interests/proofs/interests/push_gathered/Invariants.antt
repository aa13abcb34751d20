-- those so far, and those at the places that are left
use Rattle.std.proofs.Common.{◌≡◌, ◌++◌, drop}
use Rattle.nats_interests.specs.Index.{nows, is_match, gathered}
use Rattle.nats_interests.proofs.interests.push_gathered.Given as goal

abbrev pub invariant-loop-place : goal.invariant-loop-place
invariant-loop-place l = nows l.found.items ++ gathered (is_match l.fn.subject) l.fn.rows (drop l.place-index l.places)
    ≡ nows l.fn.found.items ++ gathered (is_match l.fn.subject) l.fn.rows l.fn.places
