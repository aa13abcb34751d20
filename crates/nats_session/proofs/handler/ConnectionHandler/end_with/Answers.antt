-- The link ended, and the session closed where it was to close.
use Rattle.nats_session.proofs.Commands.{left_by}
use Rattle.nats_session.proofs.handler.ConnectionHandler.end_with.Goals as goal

pub returns-clause-ok : goal.returns-clause-ok
returns-clause-ok c =
    left_by _ c.args.self.now c.leave.new.self c.args.end c.closes-closes.result c.note_end.new.events c.self.view_is c.closes-closes.ensures c.in_ok-note_end.ensures.ok c.leave.ensures
