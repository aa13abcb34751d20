-- One line more is played.
use Rattle.std.proofs.Common.{arith, length, ap}
use Rattle.nats_rpc_script.proofs.Coming.{one_played}
use Rattle.nats_rpc_script.proofs.play.Player.play_lines.Goals as goal

pub lines-preserved : goal.lines-preserved
lines-preserved c =
    let turns = c.in-Some.ensures.cases.0 in
    let kinds = c.in-Some-split_first.ensures.cases.0 in
    record {
      come = λ came' at last rest. c.lines.invariant.come came' at last
          (one_played c.lines.place c.in-Some.turn.now c.in-Some.turns_more.now c.in-Some-split_first.kind.now
          c.in-Some-split_first.kinds_more.now c.lines.turns_left.now c.lines.kinds_left.now c.lines.self c.play.new.self
          came' at last turns kinds (rw c.in-Played.is at c.in_ok-play.ensures) rest);
      number = let longer = ap length turns in let most = c.lines.invariant.number in omega (arith, longer, most);
    }
