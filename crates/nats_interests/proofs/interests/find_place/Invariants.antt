-- it stands behind those that were looked at
use Rattle.std.proofs.Common.{◌≡◌, ◌≤◌, ◌-◌, false, length, take}
use Rattle.std.specs.List.{list_any}
use Rattle.nats_interests.specs.Interests.{is_of}
use Rattle.nats_interests.proofs.interests.find_place.Given as goal

abbrev pub invariant-rows : goal.invariant-rows
invariant-rows l = (l.k ≤ length l.rows) × (list_any (is_of l.peer l.sid) (take l.k l.rows) ≡ false)

abbrev pub decreases-rows : goal.decreases-rows
decreases-rows l = length l.rows - l.k
