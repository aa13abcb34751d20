-- An accepted call is one step, a refused one none.
use Rattle.nats_session.proofs.Handlers.{leads_call}
use Rattle.nats_session.proofs.handler.ConnectionHandler.submit.Goals as goal

pub returns-clause-stands : goal.returns-clause-stands
returns-clause-stands c =
    leads_call c.args.self.now c.accept.new.self c.args.call c.accept.result c.accept.ensures
