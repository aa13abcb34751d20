-- A message was taken, and its answer was asked for.
use Rattle.std.proofs.Common.{rules, refl}
use Rattle.nats_rpc.specs.Serving.{message, plain_message}
use Rattle.nats_rpc.proofs.answering.take_in.Goals as goal

pub returns-in-Some-clause-takes : goal.returns-in-Some-clause-takes
returns-in-Some-clause-takes g c =
    message c.in-Message.message c.in-Some.kept (rw c.in-Message.is at c.in_ok-message.ensures) c.in-Some.ensures.asks
    refl

pub returns-in-None-clause-takes : goal.returns-in-None-clause-takes
returns-in-None-clause-takes g c =
    plain_message c.in-Message.message (rw c.in-Message.is at c.in_ok-message.ensures) c.in-None.ensures.asks refl
