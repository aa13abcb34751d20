-- A piece that holds bytes is the first of what is left; without one nothing is.
use Rattle.std.proofs.Common.{sym, ◌∙◌, ◌+◌, arith}
use Rattle.nats_system.proofs.Pieces.{fits, passed, none_in, some_in}
use Rattle.nats_system.proofs.net_link.first_piece.Goals as goal

pub returns-then-not-is_empty-clause-some : goal.returns-then-not-is_empty-clause-some
returns-then-not-is_empty-clause-some c = (
  some_in c.piece-item.result (sym c.is_empty.ensures ∙ c.if-not-is_empty.true),
  fits c.args.pieces.now c.pieces.piece-index c.piece-item.result c.pieces-test.true c.piece-item.is c.pieces.invariant,
)

pub pieces-preserved : goal.pieces-preserved
pieces-preserved c =
    passed c.args.pieces.now c.pieces.piece-index (c.pieces.piece-index + 1) c.piece-item.result (omega arith) c.pieces-test.true c.piece-item.is
    (none_in c.piece-item.result (sym c.is_empty.ensures ∙ c.if-not-is_empty.false)) c.pieces.invariant
