use Rattle.std.proofs.Common.{◌≡◌, take}
use Rattle.nats_addr.proofs.to_addrs.copies.Given as goal

abbrev pub invariant-addrs : goal.invariant-addrs
invariant-addrs l = l.copies.items ≡ take l.addr-index l.fn.addrs
