use Rattle.std.proofs.Common.{◌≡◌, map, length}
use Rattle.nats_addr.specs.Addr.{addrs_of}
use Rattle.nats_addr.proofs.Behind.{behind}
use Rattle.nats_addr.proofs.to_addrs.parse_all.Given as goal

-- all texts spell the addresses read so far, and then those of the texts that are left
abbrev pub invariant-texts : goal.invariant-texts
invariant-texts g l =
    addrs_of (map g.T.AsStr.text l.fn.texts) ≡ behind l.addrs.items (addrs_of (map g.T.AsStr.text l.rest))

abbrev pub decreases-texts : goal.decreases-texts
decreases-texts g l = length l.rest
