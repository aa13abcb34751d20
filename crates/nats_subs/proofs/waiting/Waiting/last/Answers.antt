-- The youngest message is what is in the youngest box.
use Rattle.std.specs.Option.{option_copied}
use Rattle.std.proofs.Common.{Some, None, sym, ap, ◌∙◌}
use Rattle.nats_subs.proofs.Boxes.{last_seen}
use Rattle.nats_subs.proofs.waiting.Waiting.last.Goals as goal

pub returns-in-Some : goal.returns-in-Some
returns-in-Some c =
    ap Some c.deref.ensures ∙ last_seen c.self.inside.boxes c.args.self.now (Some c.in-Some.message.now) (sym (ap option_copied c.in-Some.is) ∙ c.back.ensures) c.self.view_is

pub returns-in-None : goal.returns-in-None
returns-in-None c =
    last_seen c.self.inside.boxes c.args.self.now None (sym (ap option_copied c.in-None.is) ∙ c.back.ensures) c.self.view_is
