-- The oldest waiting call was handled, and the link may have ended.
use Rattle.std.proofs.Common.{sym, ◌∙◌}
use Rattle.nats_session.proofs.Commands.{handled_one}
use Rattle.nats_session.proofs.handler.ConnectionHandler.handle_command.Goals as goal

pub handle_last-requires : goal.handle_last-requires
handle_last-requires c = sym c.command_end.ensures ∙ c.in-Some.is

pub returns-in_ok-handle_next-in-None-clause-ok : goal.returns-in_ok-handle_next-in-None-clause-ok
returns-in_ok-handle_next-in-None-clause-ok c =
    handled_one c.args.self.now c.handle_next.new.self c.requires.some (sym c.command_end.ensures ∙ c.in-None.is) c.in_ok-handle_next-in-None.ensures.ok
