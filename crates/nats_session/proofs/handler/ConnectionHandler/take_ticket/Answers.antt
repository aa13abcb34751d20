-- One more call waits, and one more ticket was given.
use Rattle.nats_session.proofs.Handlers.{ticket_by}
use Rattle.nats_session.proofs.handler.ConnectionHandler.take_ticket.Goals as goal

pub returns-in-Ok : goal.returns-in-Ok
returns-in-Ok c =
    ticket_by _ c.args.self.now c.args.call c.args.waits c.push.new.self c.give.new.self c.given.result c.self.view_is c.requires.free c.requires.ticket
    c.in_default.ensures.ok c.in-Ok.ensures.ok c.given.ensures
