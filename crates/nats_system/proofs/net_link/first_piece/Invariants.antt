-- the pieces before hold no byte
use Rattle.std.proofs.Common.{◌≡◌, drop}
use Rattle.std.specs.List.{concat}
use Rattle.nats_system.proofs.net_link.first_piece.Given as goal

abbrev pub invariant-pieces : goal.invariant-pieces
invariant-pieces l = concat (drop l.piece-index l.pieces) ≡ concat l.pieces
