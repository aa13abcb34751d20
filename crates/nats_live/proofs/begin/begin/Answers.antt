-- The first piece is refused for want of memory alone.
use Rattle.std.proofs.Common.{◌≡◌}
use Rattle.std.specs.Prelude.{IfErr}
use Rattle.nats_live.specs.declared.error.LiveError.TheVariants as refused
use Rattle.nats_live.proofs.Wants.{err_by}
use Rattle.nats_live.proofs.begin.begin.Goals as goal

pub returns-in_err-feed-clause-err : goal.returns-in_err-feed-clause-err
returns-in_err-feed-clause-err c =
    err_by (λ r. IfErr r (λ e. e ≡ refused.NoMemory)) c.in_err-feed.field-0.0
    c.from_residual-in_err-feed.result c.from_residual-in_err-feed.ensures.0 c.from_residual-in_err-feed.ensures.1
    (c.in_err-feed.ensures c.args.info.max_payload c.in_ok-core.ensures.up c.in_ok-core.ensures.begun)
