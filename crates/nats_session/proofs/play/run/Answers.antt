-- A new session has the parts that turns begin with.
use Rattle.std.proofs.Common.{ap}
use Rattle.nats_session.specs.Handler.{Seen}
use Rattle.nats_session.proofs.play.run.Goals as goal

pub returns : goal.returns
returns c = c.run_on.ensures c.args.config (ap (λ (s : Seen). s.parts) c.in_ok-handler.ensures.seen)
