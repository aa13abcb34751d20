-- A message that was brought to its subscription and taken away was read.
use Rattle.std.proofs.Common.{◌∙◌, ap}
use Rattle.std.proofs.lemmas.Result.{on_ok_weaker}
use Rattle.nats_message.specs.declared.message.Message.{Message}
use Rattle.nats_lines.specs.Operations.{peeked_view}
use Rattle.nats_session.specs.Handler.{coming, message_past}
use Rattle.nats_session.proofs.Messages.{consumed_seen}
use Rattle.nats_session.proofs.handler.ConnectionHandler.handle_server_op.Goals as goal

pub returns-then-is_ok-clause-ok : goal.returns-then-is_ok-clause-ok
returns-then-is_ok-clause-ok c =
    on_ok_weaker c.read_message-name.result
    (λ is. consumed_seen _ c.args.self.now c.message_past.new.self (peeked_view c.args.peeked.op) c.in-Message.sid c.args.peeked.len c.in-Message.message.value
    is (c.message_past.ensures ∙ ap (λ (m : Message). message_past c.args.peeked.len m.length c.read_message-name.new.self) c.deref.ensures) (ap peeked_view c.in-Message.is) c.requires.up c.requires.front)
    c.read_message-name.ensures.ok

pub read_message-name-requires : goal.read_message-name-requires
read_message-name-requires c =
    c.requires.coming ∙ ap (λ op. coming c.args.self.now.parts (peeked_view op)) c.in-Message.is
