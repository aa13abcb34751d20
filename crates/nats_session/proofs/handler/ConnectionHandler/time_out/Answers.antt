-- The request of the ticket settles, where it is unsettled.
use Rattle.nats_session.proofs.Handlers.{deadline_by}
use Rattle.nats_session.proofs.handler.ConnectionHandler.time_out.Goals as goal

pub returns : goal.returns
returns c = deadline_by _ c.args.self.now c.args.ticket c.time_out.new.self c.self.view_is c.time_out.ensures
