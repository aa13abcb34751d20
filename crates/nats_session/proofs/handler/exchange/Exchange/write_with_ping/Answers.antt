-- The texts of the commands are written at once, behind those that wait, and the PING waits behind the others.
use Rattle.std.proofs.Common.{◌∷◌, ◌++◌, [], ◌∙◌, ap}
use Rattle.nats_message.specs.declared.op.ClientOp.TheVariants as client
use Rattle.nats_wire.specs.Wire.{with_waiting}
use Rattle.nats_session.proofs.Commands.{written_ops}
use Rattle.nats_session.proofs.handler.exchange.Exchange.write_with_ping.Goals as goal

pub returns-in-Ok-clause-ok : goal.returns-in-Ok-clause-ok
returns-in-Ok-clause-ok c =
    let old = c.args.self.now in
    let channel = old.connection in
    ap (λ pings. record old { connection = c.enqueue_write_ops-write.new.self; pings = pings }) c.in_ok-push-2.ensures.ok
    ∙ ap (λ connection. record old { connection = connection; pings = old.pings ++ c.args.ping ∷ [] })
    (c.in-Ok.ensures.ok
    ∙ ap (λ text. with_waiting text channel) (written_ops c.as_slice.result.now (c.args.ops.items ++ client.Ping ∷ []) channel.wire.waiting (c.as_slice.ensures.value ∙ c.in_ok-push.ensures.items)))
