-- A message comes to the inbox or to a subscription.
use Rattle.std.proofs.Common.{◌∙◌}
use Rattle.std.proofs.lemmas.Result.{on_ok_weaker}
use Rattle.nats_session.proofs.Messages.{inbox_come, other_come, inbox_name}
use Rattle.nats_session.proofs.handler.ConnectionHandler.read_message.Goals as goal

pub returns-then-sid-eq-INBOX-clause-ok : goal.returns-then-sid-eq-INBOX-clause-ok
returns-then-sid-eq-INBOX-clause-ok c =
    inbox_come c.arrive.new.self c.args.self.now c.args.sid c.args.message.value c.arrive.ensures c.if-sid-eq-INBOX.true

pub returns-then-sid-eq-INBOX-clause-name : goal.returns-then-sid-eq-INBOX-clause-name
returns-then-sid-eq-INBOX-clause-name c =
    inbox_name c.args.self.now c.args.sid c.args.message.value c.if-sid-eq-INBOX.true

pub returns-clause-ok : goal.returns-clause-ok
returns-clause-ok c =
    on_ok_weaker c.bring_message.result (λ e. e ∙ other_come c.args.self.now c.args.sid c.args.message.value c.if-sid-eq-INBOX.false) c.bring_message.ensures.ok
