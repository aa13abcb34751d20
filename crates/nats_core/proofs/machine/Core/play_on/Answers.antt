-- The link is looked at before the turn.
use Rattle.std.proofs.Common.{sym, ◌∙◌}
use Rattle.nats_core.proofs.Cores.{plays_on}
use Rattle.nats_core.proofs.machine.Core.play_on.Goals as goal

pub returns : goal.returns
returns c =
    plays_on c.args.link c.args.self.now c.play.new.self c.args.turn c.play.result
    (sym c.is_on.ensures ∙ c.if-not-is_on.false) c.play.ensures
