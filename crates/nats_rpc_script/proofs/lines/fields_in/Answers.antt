-- What stands behind the first space, or nothing.
use Rattle.std.proofs.Common.{sym, ◌∙◌, ap}
use Rattle.std.specs.Option.{option_copied}
use Rattle.nats_rpc_script.proofs.Cuts.{fields_some, fields_none}
use Rattle.nats_rpc_script.proofs.lines.fields_in.Goals as goal

pub returns-in-Some : goal.returns-in-Some
returns-in-Some c = fields_some _ _ (sym c.cut.ensures.rest ∙ ap option_copied c.in-Some.is)

pub returns-in-None : goal.returns-in-None
returns-in-None c = fields_none _ (sym c.cut.ensures.rest ∙ ap option_copied c.in-None.is)
