-- The turn's own step leads to the new parts.
use Rattle.nats_history.specs.History.{fed}
use Rattle.nats_session.proofs.Handlers.{leads_one}
use Rattle.nats_session.proofs.handler.ConnectionHandler.shared_piece.Goals as goal

pub returns-clause-stands : goal.returns-clause-stands
returns-clause-stands c =
    leads_one c.feed_shared.result c.args.self.now c.feed_shared.new.self (fed c.args.bytes.now) c.feed_shared.ensures.ok
