-- What the text behind an INFO comes to, before it is known how far the handshake is.
use Rattle.std.specs.Prelude.{◌≡◌, ℕ, ◌++◌, Result, Ok, Err}
use Rattle.nats_handshake.specs.declared.stage.Shake.{Shake}
use Rattle.nats_handshake.specs.Course.{Course}
use Rattle.nats_handshake.specs.Errors.{Failure}
use Rattle.nats_handshake.specs.Shaking.{Talk, IsAnswer, StopsOrWants}

-- its bytes are read and its answers wait, with so many operations to come; a refusal changes nothing
abbrev pub Followed : Course → Talk → Result (ℕ × Shake) Failure → Talk → Type 0
Followed c t (Ok pair) new = (pair.0 ≡ c.left) × IsAnswer c.verdict pair.1
    × (new ≡ record t { unread = c.rest; out = t.out ++ c.out })
Followed c t (Err e) new = StopsOrWants c.verdict e × (new ≡ t)
