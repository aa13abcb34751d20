-- the turns before this one were told
use Rattle.std.proofs.Common.{drop}
use Rattle.nats_link_text.specs.Typed.{AreTypedTurns}
use Rattle.nats_link_text.proofs.told.tell_turns.Given as goal

abbrev pub invariant-loop-turn : goal.invariant-loop-turn
invariant-loop-turn l = AreTypedTurns (drop l.turn-index l.turns) → AreTypedTurns l.turns
