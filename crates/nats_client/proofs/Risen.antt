-- A count that rose by so many, and then by one, up to its most.
use Rattle.std.proofs.Common.{◌≡◌, ℕ, ◌+◌, ◌-◌, ◌^◌, min, arith}
use Rattle.nats_outside.specs.Counts.{RoseBy}

pub risen_more : (n before after later : ℕ) → RoseBy n before after
    → later ≡ min (after + 1) (2 ^ 64 - 1) → RoseBy (n + 1) before later
risen_more n before after later rose is = omega (arith, rose, is)
