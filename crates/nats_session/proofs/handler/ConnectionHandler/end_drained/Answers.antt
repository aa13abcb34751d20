-- The PONG of the session's drain ends the link.
use Rattle.std.proofs.Common.{Some, sym}
use Rattle.nats_session.proofs.Commands.{drained, pong_name}
use Rattle.nats_session.proofs.handler.ConnectionHandler.end_drained.Goals as goal

pub returns-clause-ok : goal.returns-clause-ok
returns-clause-ok c =
    drained c.args.self.now c.end_with.new.self c.count_read.new.self c.args.end c.requires c.in_ok-end_with.ensures.ok c.count_read.ensures

pub returns-clause-name : goal.returns-clause-name
returns-clause-name c = sym (pong_name c.args.self.now.parts (Some c.args.end) c.requires)
