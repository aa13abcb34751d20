-- The reply is noted again: a message that was taken is the one that waited first.
use Rattle.std.proofs.Common.{sym, ◌∙◌, ap, subst}
use Rattle.nats_core.specs.Replies.{IsPlainReply, message_of}
use Rattle.nats_core.proofs.Plain.{plain_reply, message_is}
use Rattle.nats_core.proofs.notes.play_into.Goals as goal

pub entry_with-requires-clause-plain : goal.entry_with-requires-clause-plain
entry_with-requires-clause-plain c =
    subst IsPlainReply (sym c.in_ok-reply.ensures.reply) (plain_reply c.args.handler.now.parts c.args.turn)

pub entry_with-requires-clause-message : goal.entry_with-requires-clause-message
entry_with-requires-clause-message c =
    c.requires.message
    ∙ (message_is c.args.handler.now.parts c.args.turn c.requires.may
    ∙ ap message_of (sym c.in_ok-reply.ensures.reply))
