use Rattle.std.proofs.Common.{rules, refl}
use Rattle.nats_rpc.specs.Polling.{waits, unended}
use Rattle.nats_rpc.proofs.Polls.{waits_over}
use Rattle.nats_rpc.proofs.attempt.await_longer.Goals as goal

pub returns-then-not-is_over : goal.returns-then-not-is_over
returns-then-not-is_over c = waits c.requires.none (search rules) refl refl refl refl

pub returns-in_err-expire : goal.returns-in_err-expire
returns-in_err-expire c = unended c.requires.none (search rules) c.from_residual.ensures.0
    c.in_err-expire.ensures.same refl c.in_err-expire.ensures.err

pub returns : goal.returns
returns c =
    waits_over _ _ _ _ _ _ _ _ _ _ _ _ c.requires.none (search rules) c.in_ok-expire.ensures.ok
    c.in_ok-expire.ensures.asked c.try_again.ensures
