-- What the sink took goes to what was written.
use Rattle.std.proofs.Common.{arith}
use Rattle.std.proofs.Math.Seq.{take-add}
use Rattle.std.proofs.lemmas.List.{take_rest, length-drop}
use Rattle.nats_replay.proofs.Transfers.{appends_more}
use Rattle.nats_replay.proofs.whole.write_all.Goals as goal

pub loop-taken-preserved : goal.loop-taken-preserved
loop-taken-preserved g c =
    let now = c.loop-taken in
    let took = c.in_ok-taken in
    record {
      bound = omega (arith, rw take_rest at took.ensures.bound, length-drop now.taken c.args.text.now);
      written = rw take-add (appends_more _ _ _ _ _ now.invariant.written (rw take_rest at took.ensures.bytes));
      later = omega (arith, now.invariant.later, took.ensures.cause.later);
    }
