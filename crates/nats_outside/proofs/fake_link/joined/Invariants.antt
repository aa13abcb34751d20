use Rattle.std.proofs.Common.{◌≡◌, take}
use Rattle.std.specs.List.{concat}
use Rattle.nats_outside.proofs.fake_link.joined.Given as goal

abbrev pub invariant-pieces : goal.invariant-pieces
invariant-pieces l = l.bytes.items ≡ concat (take l.piece-index l.fn.pieces)
