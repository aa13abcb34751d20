-- A ticket's reply is handed out, and the journal stays.
use Rattle.nats_core.proofs.Cores.{sound_reply}
use Rattle.nats_core.proofs.machine.Core.reply_of.Goals as goal

pub invariant_of-self : goal.invariant_of-self
invariant_of-self c =
    sound_reply c.self.inside.is_kept c.self.inside.entries.items c.self.inside.session c.reply_of.new.self c.args.t c.reply_of.result c.self.invariant c.reply_of.ensures.rest c.reply_of.ensures.stands
