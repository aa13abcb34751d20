-- The call was let go, and the link ended.
use Rattle.nats_session.proofs.Commands.{last_by}
use Rattle.nats_session.proofs.handler.ConnectionHandler.handle_last.Goals as goal

pub returns-clause-ok : goal.returns-clause-ok
returns-clause-ok c =
    last_by _ c.args.self.now c.leave.new.self c.args.end c.closes-closes.result c.discard.new.self c.note_end.new.events c.self.view_is c.requires c.closes-closes.ensures c.discard.ensures c.in_ok-note_end.ensures.ok c.leave.ensures
