use Rattle.std.proofs.Common.{refl}
use Rattle.nats_pool.proofs.pool_parts.Pool.begin_round.Goals as goal

pub returns-clause-ok : goal.returns-clause-ok
returns-clause-ok g c = record {
  named = c.in_ok-named.named;
  names = rw (← c.as_slice.ensures.value) c.in_ok-named.ensures;
  plan = rw (c.over.ensures, ← c.as_slice-2.ensures.value, ← c.in_ok-generator.ensures) c.in_ok-choice.ensures;
  handed = rw c.over.ensures refl;
  choice = refl;
  servers = refl;
  options = refl;
  attempts = refl;
}
