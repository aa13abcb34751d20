-- The end that the oldest waiting call brings.
use Rattle.std.proofs.Common.{sym, ◌∙◌, subst}
use Rattle.nats_session.specs.Handler.{Sees}
use Rattle.nats_session.proofs.Commands.{command_ends}
use Rattle.nats_session.proofs.handler.ConnectionHandler.end_by.Goals as goal

pub returns-in-Command : goal.returns-in-Command
returns-in-Command c =
    let sees = subst (Sees c.args.self.now.parts) c.in-Command.is c.requires in
    c.command_end.ensures ∙ sym (command_ends c.args.self.now.parts sees.0)
