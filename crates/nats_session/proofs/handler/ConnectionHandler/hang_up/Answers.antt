-- The turn's own steps lead to the new parts.
use Rattle.nats_history.specs.declared.turn.Turn.TheVariants as turns
use Rattle.nats_history.specs.Schedule.{own_steps}
use Rattle.nats_session.proofs.Handlers.{leads_all}
use Rattle.nats_session.proofs.handler.ConnectionHandler.hang_up.Goals as goal

pub returns-clause-stands : goal.returns-clause-stands
returns-clause-stands c =
    leads_all c.end_all.result c.args.self.now c.end_all.new.self (own_steps c.args.self.now.parts turns.Hangup) c.end_all.ensures.ok
