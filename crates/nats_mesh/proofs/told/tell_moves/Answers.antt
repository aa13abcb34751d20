-- One more move is told.
use Rattle.std.proofs.Common.{sym, subst, arith}
use Rattle.std.proofs.lemmas.List.{drop_all}
use Rattle.nats_own_laws.specs.Own.{AreTypedMoves}
use Rattle.nats_mesh.proofs.Listed.{moves_on}
use Rattle.nats_mesh.proofs.told.tell_moves.Goals as goal

pub loop-step-init : goal.loop-step-init
loop-step-init c = λ all. all

pub loop-step-preserved : goal.loop-step-preserved
loop-step-preserved c =
    moves_on c.args.moves.now c.loop-step.step-index c.step-item.result c.loop-step-test.true c.step-item.is c.tell_move.ensures c.loop-step.invariant

pub returns : goal.returns
returns c =
    c.loop-step.invariant (subst AreTypedMoves (sym (drop_all c.loop-step.step-index c.args.moves.now (omega (arith, c.loop-step-test.false)))) tt)
