-- The turn's own steps lead to the new parts.
use Rattle.nats_history.specs.declared.turn.Turn.TheVariants as turns
use Rattle.nats_history.specs.Schedule.{own_steps}
use Rattle.nats_session.proofs.Handlers.{leads_all}
use Rattle.nats_session.proofs.handler.ConnectionHandler.tick.Goals as goal

pub returns-clause-stands : goal.returns-clause-stands
returns-clause-stands c =
    leads_all c.ping_or_end.result c.args.self.now c.ping_or_end.new.self (own_steps c.args.self.now.parts turns.Tick) c.ping_or_end.ensures.ok
