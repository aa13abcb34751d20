-- The turn's own step leads to the new parts.
use Rattle.nats_history.specs.declared.turn.Turn.TheVariants as turns
use Rattle.nats_history.specs.Schedule.{own_steps}
use Rattle.nats_session.proofs.Handlers.{leads}
use Rattle.nats_session.proofs.handler.ConnectionHandler.deadline.Goals as goal

pub returns-clause-stands : goal.returns-clause-stands
returns-clause-stands c =
    leads c.args.self.now (own_steps c.args.self.now.parts (turns.Deadline c.args.t)) c.time_out.new.self c.time_out.ensures
