-- The pieces that were copied are the first ones.
use Rattle.std.proofs.Common.{arith, ap, sym, ◌∙◌, ◌<◌, length}
use Rattle.std.specs.List.{concat}
use Rattle.nats_outbuf.proofs.Pieces.{first_pieces, all_pieces, some_bytes, any_err}
use Rattle.nats_outbuf.proofs.chunks.Chunks.first.Goals as goal

pub returns-in_err-piece-clause-memory : goal.returns-in_err-piece-clause-memory
returns-in_err-piece-clause-memory c =
    any_err _ (0 < length c.args.self.now) (rw (sym c.self.view_is) (some_bytes c.self.inside.pieces.items c.self.inside.len c.self.invariant (omega (arith, c.loop-i-test.true, c.min-count.ensures, c.len.ensures))))

pub returns-in_err-push-clause-memory : goal.returns-in_err-push-clause-memory
returns-in_err-push-clause-memory c =
    any_err _ (0 < length c.args.self.now) (rw (sym c.self.view_is) (some_bytes c.self.inside.pieces.items c.self.inside.len c.self.invariant (omega (arith, c.loop-i-test.true, c.min-count.ensures, c.len.ensures))))

pub returns-clause-front : goal.returns-clause-front
returns-clause-front c =
    rw (c.loop-i.invariant, sym c.self.view_is)
    (first_pieces c.self.inside.pieces.items c.self.inside.len c.loop-i.i c.args.most c.self.invariant (omega (arith, c.loop-i-test.false, c.loop-i.auto.i-end, c.min-count.ensures, c.len.ensures)) c.requires)

pub returns-clause-all : goal.returns-clause-all
returns-clause-all c = λ fewer.
    ap concat c.loop-i.invariant ∙ all_pieces c.self.inside.pieces.items c.loop-i.i c.args.most (omega (arith, c.loop-i-test.false, c.loop-i.auto.i-end, c.min-count.ensures, c.len.ensures)) (rw c.loop-i.invariant at fewer) ∙ c.self.view_is
