-- From a new caller and a new core on.
use Rattle.nats_rpc_script.proofs.Coming.{on_ok, plays_all}
use Rattle.nats_rpc_script.proofs.play.play_turns.Goals as goal

pub returns : goal.returns
returns c = on_ok c.play_all.result _ _ (λ played comes.
    plays_all c.args.config c.args.turns.now c.args.kinds.now c.args.terms.0 c.args.terms.1 c.in_ok-player.player
    played c.in_ok-player.ensures comes) c.play_all.ensures
