-- The turn's own steps lead to the new parts.
use Rattle.nats_history.specs.declared.turn.Turn.TheVariants as turns
use Rattle.nats_history.specs.Schedule.{own_steps}
use Rattle.nats_session.proofs.Handlers.{leads_all}
use Rattle.nats_session.proofs.handler.ConnectionHandler.lost.Goals as goal

pub returns-clause-stands : goal.returns-clause-stands
returns-clause-stands c =
    leads_all c.end_with.result c.args.self.now c.end_with.new.self (own_steps c.args.self.now.parts turns.Lost) c.end_with.ensures.ok
