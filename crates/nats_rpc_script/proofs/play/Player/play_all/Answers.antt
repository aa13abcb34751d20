-- The lines that were played, and what they came to.
use Rattle.nats_rpc_script.proofs.Coming.{on_ok, comes_to}
use Rattle.nats_rpc_script.proofs.play.Player.play_all.Goals as goal

pub returns : goal.returns
returns c = on_ok c.end.result _ _ (λ played ends.
    comes_to c.args.turns.now c.args.kinds.now c.args.self.now c.play_lines.new.self c.in_ok-came.came
    c.in_ok-came.place played c.in_ok-came.ensures ends) c.end.ensures
