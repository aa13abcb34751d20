-- A word behind which something stands, or nothing.
use Rattle.std.proofs.Common.{sym, ◌∙◌, ap}
use Rattle.std.specs.Option.{option_copied}
use Rattle.nats_rpc_script.specs.Lines.{before, behind}
use Rattle.nats_rpc_script.proofs.Cuts.{kind_some, kind_none}
use Rattle.nats_rpc_script.proofs.lines.kind_of.Goals as goal

pub returns-in-Some : goal.returns-in-Some
returns-in-Some c =
    c.kind_of_word.ensures
    ∙ kind_some _ _ _ _ c.cut.ensures.front (sym c.cut.ensures.rest ∙ ap option_copied c.in-Some.is)

pub returns-in-None : goal.returns-in-None
returns-in-None c = kind_none (before 32 c.args.line.now) (behind 32 c.args.line.now) (sym c.cut.ensures.rest ∙ ap option_copied c.in-None.is)
