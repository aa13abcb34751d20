-- One more turn is told.
use Rattle.std.proofs.Common.{sym, subst, arith}
use Rattle.std.proofs.lemmas.List.{drop_all}
use Rattle.nats_link_text.specs.Typed.{AreTypedTurns}
use Rattle.nats_link_text.proofs.Listed.{turns_on}
use Rattle.nats_link_text.proofs.told.tell_turns.Goals as goal

pub loop-turn-init : goal.loop-turn-init
loop-turn-init c = λ all. all

pub loop-turn-preserved : goal.loop-turn-preserved
loop-turn-preserved c =
    turns_on c.args.turns.now c.loop-turn.turn-index c.turn-item.result c.loop-turn-test.true c.turn-item.is c.tell_turn.ensures c.loop-turn.invariant

pub returns : goal.returns
returns c =
    c.loop-turn.invariant (subst AreTypedTurns (sym (drop_all c.loop-turn.turn-index c.args.turns.now (omega (arith, c.loop-turn-test.false)))) tt)
