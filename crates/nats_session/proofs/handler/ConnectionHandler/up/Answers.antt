-- The turn's own step leads to the new parts.
use Rattle.nats_history.specs.History.{opened}
use Rattle.nats_session.proofs.Handlers.{leads_one}
use Rattle.nats_session.proofs.handler.ConnectionHandler.up.Goals as goal

pub returns-clause-stands : goal.returns-clause-stands
returns-clause-stands c =
    leads_one c.open_link.result c.args.self.now c.open_link.new.self (opened c.args.info) c.open_link.ensures.ok
