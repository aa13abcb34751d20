use Rattle.nats_pool.specs.Auths.{auth_value}
use Rattle.nats_handshake.proofs.handshake.offer_opening.Goals as goal

pub returns-in_ok-opening-in-Ok : goal.returns-in_ok-opening-in-Ok
returns-in_ok-opening-in-Ok g c = (
  auth_value c.in-Ok.auth,
  rw (c.as_bytes.ensures.value, c.as_str.ensures) at c.in-Ok.ensures,
  c.in_ok-opening-in-Ok.ensures,
)

pub returns-in-Err : goal.returns-in-Err
returns-in-Err g c = rw (c.as_bytes.ensures.value, c.as_str.ensures) at c.in-Err.ensures
