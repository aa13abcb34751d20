-- the pieces that are left decide
use Rattle.std.proofs.Common.{◌≡◌, length}
use Rattle.std.specs.List.{list_all}
use Rattle.nats_names.specs.Names.{is_publishable}
use Rattle.nats_client_text.specs.Pieces.{pieces_of}
use Rattle.nats_client_text.specs.Code.{pieces_left}
use Rattle.nats_client_text.proofs.pieces.are_pieces.Given as goal

abbrev pub invariant-loop-piece : goal.invariant-loop-piece
invariant-loop-piece l = list_all is_publishable (pieces_left l.left) ≡ list_all is_publishable (pieces_of l.fn.line)

abbrev pub decreases-loop-piece : goal.decreases-loop-piece
decreases-loop-piece l = length (pieces_left l.left)
