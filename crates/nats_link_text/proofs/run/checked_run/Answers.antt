-- A run's links are read back as their commands.
use Rattle.nats_link_text.proofs.Carried.{run_reads}
use Rattle.nats_link_text.proofs.run.checked_run.Goals as goal

pub returns : goal.returns
returns c = record {
  plays = c.run.ensures;
  carries = run_reads c.args.config c.args.turns.now c.run.result c.no_smuggling.ensures c.run.ensures c.tell_config.ensures c.tell_turns.ensures;
}
