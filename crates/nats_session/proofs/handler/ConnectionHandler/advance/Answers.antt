-- The step that is due leads to the new parts.
use Rattle.nats_history.specs.Schedule.{due}
use Rattle.nats_session.proofs.Handlers.{leads_advance}
use Rattle.nats_session.proofs.handler.ConnectionHandler.advance.Goals as goal

pub returns-clause-stands : goal.returns-clause-stands
returns-clause-stands c =
    leads_advance c.args.self.now c.play_next.new.self (due c.args.self.now.parts) c.play_next.result c.play_next.ensures.ok
