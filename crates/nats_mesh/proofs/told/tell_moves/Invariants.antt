-- the moves before this one were told
use Rattle.std.proofs.Common.{drop}
use Rattle.nats_own_laws.specs.Own.{AreTypedMoves}
use Rattle.nats_mesh.proofs.told.tell_moves.Given as goal

abbrev pub invariant-loop-step : goal.invariant-loop-step
invariant-loop-step l = AreTypedMoves (drop l.step-index l.moves) → AreTypedMoves l.moves
