-- The bytes that came behind the handshake are the first piece.
use Rattle.std.proofs.Common.{subst, List, ℕ}
use Rattle.nats_live.specs.Ended.{limit_with}
use Rattle.nats_live.specs.Flow.{HasBegun}
use Rattle.nats_live.proofs.Coming.{fed_begun}
use Rattle.nats_live.proofs.begin.feed.Goals as goal

pub returns : goal.returns
returns c = λ most up b.
    subst (λ (bytes : List ℕ). HasBegun (limit_with most bytes) bytes c.play.new.core.session) c.in_ok-bytes.ensures.ok
    (fed_begun most c.in_ok-bytes.bytes c.args.core.now c.play.new.core c.in_ok-play.field-0 b up c.in_ok-play.ensures)
