use Rattle.std.proofs.Common.{◌≡◌, length}
use Rattle.nats_addr.specs.Addr.{has_mark}
use Rattle.nats_addr.proofs.addr.has_mark.Given as goal

-- the mark stands in the text where it stands in what is left
abbrev pub invariant-rest : goal.invariant-rest
invariant-rest l = has_mark l.fn.text ≡ has_mark l.rest

abbrev pub decreases-rest : goal.decreases-rest
decreases-rest l = length l.rest
