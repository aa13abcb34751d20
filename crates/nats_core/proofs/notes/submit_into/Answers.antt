-- The reply of a call holds no message.
use Rattle.std.proofs.Common.{sym, subst}
use Rattle.nats_core.specs.Replies.{IsPlain}
use Rattle.nats_core.proofs.Plain.{plain_call}
use Rattle.nats_core.proofs.notes.submit_into.Goals as goal

pub call_entry-requires : goal.call_entry-requires
call_entry-requires c =
    subst IsPlain (sym c.in_ok-reply.ensures.reply) (plain_call c.args.handler.now.parts c.args.call)
