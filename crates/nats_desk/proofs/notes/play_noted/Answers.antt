-- The reply is noted again: that of a call holds no message.
use Rattle.std.proofs.Common.{sym, subst}
use Rattle.nats_core.specs.Calls.{parts_in}
use Rattle.nats_core.specs.Replies.{IsPlainReply}
use Rattle.nats_core.proofs.Cores.{may_none}
use Rattle.nats_core.proofs.Plain.{plain_reply}
use Rattle.nats_desk.proofs.Keeping.{config_steps, reply_steps}
use Rattle.nats_desk.proofs.notes.play_noted.Goals as goal

pub entry_with-requires-clause-plain : goal.entry_with-requires-clause-plain
entry_with-requires-clause-plain c =
    subst IsPlainReply
    (sym (reply_steps c.args.core.now c.step.new.self c.args.turn c.in-Ok.reply (may_none (parts_in c.args.core.now) c.args.turn c.requires.may) c.in-Ok.ensures.steps))
    (plain_reply (parts_in c.args.core.now) c.args.turn)

pub returns-in-Ok-clause-config : goal.returns-in-Ok-clause-config
returns-in-Ok-clause-config c = config_steps c.args.core.now c.step.new.self c.args.turn c.step.result c.step.ensures.steps

pub returns-in-Err-clause-config : goal.returns-in-Err-clause-config
returns-in-Err-clause-config c = config_steps c.args.core.now c.step.new.self c.args.turn c.step.result c.step.ensures.steps
