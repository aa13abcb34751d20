-- The oldest event that waits is the history's next.
use Rattle.nats_session.proofs.Handlers.{hands_out}
use Rattle.nats_session.proofs.handler.ConnectionHandler.next_event.Goals as goal

pub returns-clause-stands : goal.returns-clause-stands
returns-clause-stands c =
    hands_out c.args.self.now c.take_event.new.self c.take_event.result c.take_event.ensures.event c.take_event.ensures.rest
