-- One more turn goes over to those that were read.
use Rattle.std.proofs.Common.{sym, ◌∙◌, arith}
use Rattle.nats_route_script.proofs.Scripts.{read_more}
use Rattle.nats_route_script.proofs.read.read_turns.Goals as goal

pub loop-line-preserved : goal.loop-line-preserved
loop-line-preserved c =
    let now = c.loop-line in
    let found = c.in-Some in
    record {
      so_far = rw c.in_ok-push.ensures.ok (read_more _ now.turns now.k now.rest.now found.line.now found.more.now c.in-Some-2.turn found.ensures (sym c.in-Some-2.is ∙ c.in_ok-turn.ensures) now.invariant.so_far);
      number = omega (arith, found.ensures.shorter);
    }
