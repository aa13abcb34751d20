-- The turn's own step leads to the new parts.
use Rattle.nats_history.specs.History.{fed}
use Rattle.nats_session.proofs.Handlers.{leads_one}
use Rattle.nats_session.proofs.handler.ConnectionHandler.piece.Goals as goal

pub returns-clause-stands : goal.returns-clause-stands
returns-clause-stands c =
    leads_one c.feed.result c.args.self.now c.feed.new.self (fed c.args.bytes.now) c.feed.ensures.ok
