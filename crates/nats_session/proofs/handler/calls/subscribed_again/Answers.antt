-- The texts wait in fresh buffers.
use Rattle.std.proofs.Common.{◌++◌, ◌∙◌, ap}
use Rattle.nats_history.specs.History.{all_again, inbox_commands}
use Rattle.nats_session.proofs.Commands.{written_at_once}
use Rattle.nats_session.proofs.handler.calls.subscribed_again.Goals as goal

pub returns : goal.returns
returns c =
    let inbox = inbox_commands c.args.config.now c.args.requested in
    written_at_once c.new-connection.result c.enqueue_write_ops.new.self c.as_slice.result.now (all_again 1 c.args.subs.now.rows ++ inbox) c.new-connection.ensures
    (c.as_slice.ensures.value ∙ (c.in_ok-push_inbox.ensures ∙ ap (λ ops. ops ++ inbox) c.in_ok-ops.ensures)) c.in_ok-enqueue_write_ops.ensures.ok
