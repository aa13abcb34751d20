-- A field is left exactly where a cut was made.
use Rattle.nats_script.proofs.Bare.{bare_where}
use Rattle.nats_script.proofs.turn_lines.is_bare.Goals as goal

pub returns : goal.returns
returns c = bare_where c.args.fields c.is_none.result c.is_none.ensures
