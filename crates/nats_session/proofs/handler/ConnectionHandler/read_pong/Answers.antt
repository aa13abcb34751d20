-- A PONG answers the oldest PING, and the link may end.
use Rattle.std.proofs.Common.{None, sym, ◌∙◌}
use Rattle.nats_session.proofs.Commands.{answered_by, pong_name}
use Rattle.nats_session.proofs.handler.ConnectionHandler.read_pong.Goals as goal

pub end_drained-requires : goal.end_drained-requires
end_drained-requires c = sym c.pong_end.ensures ∙ c.in-Some.is

pub returns-in-None-clause-ok : goal.returns-in-None-clause-ok
returns-in-None-clause-ok c =
    answered_by _ c.args.self.now c.read_past.new.self c.args.len c.answer_ping.ensures c.read_past.ensures c.requires.front
    (sym c.pong_end.ensures ∙ c.in-None.is)

pub returns-in-None-clause-name : goal.returns-in-None-clause-name
returns-in-None-clause-name c = sym (pong_name c.args.self.now.parts None (sym c.pong_end.ensures ∙ c.in-None.is))
