-- The reply of a ticket is the history's, and is handed out once.
use Rattle.nats_session.proofs.Handlers.{hands_reply}
use Rattle.nats_session.proofs.handler.ConnectionHandler.reply_of.Goals as goal

pub returns-clause-stands : goal.returns-clause-stands
returns-clause-stands c =
    hands_reply c.args.t c.args.self.now c.take_reply_of.new.self c.take_reply_of.result c.take_reply_of.ensures.reply c.take_reply_of.ensures.rest
