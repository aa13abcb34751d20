-- A message that is taken is one step; where none waits there is none.
use Rattle.nats_session.proofs.Handlers.{leads_take}
use Rattle.nats_session.proofs.handler.ConnectionHandler.take.Goals as goal

pub returns-clause-stands : goal.returns-clause-stands
returns-clause-stands c =
    leads_take c.args.self.now c.take_oldest.new.self c.args.s c.requires c.take_oldest.ensures.rest
