use Rattle.std.proofs.Common.{rules, refl, sym}
use Rattle.nats_rpc.specs.Polling.{settles}
use Rattle.nats_rpc.proofs.Polls.{none_mid, waits_longer}
use Rattle.nats_rpc.proofs.attempt.await_reply.Goals as goal

pub returns-in-Some : goal.returns-in-Some
returns-in-Some c = settles c.in-Some.reply (sym c.in-Some.ensures.reply) refl (search rules) refl
    c.in-Some.ensures.rest

pub await_longer-requires-clause-none : goal.await_longer-requires-clause-none
await_longer-requires-clause-none c = none_mid c.args.attempt.ticket c.args.core.now c.reply_of.new.self
    (sym c.in-None.ensures.reply) c.in-None.ensures.rest

pub returns-in-None : goal.returns-in-None
returns-in-None c =
    waits_longer _ _ _ _ _ c.args.core.now c.reply_of.new.self _ _ _ _ (sym c.in-None.ensures.reply)
    c.in-None.ensures.rest c.await_longer.ensures
