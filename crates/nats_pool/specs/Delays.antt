-- How long to wait before an attempt.
use Rattle.std.specs.Prelude.{◌≡◌, ℕ, ◌-◌, ◌^◌, min, nat_le, if◌then◌else◌}
use denote.Param.Members.{Mut}
use Rattle.nats_pool.specs.declared.callbacks.DelayFn.{DelayFn}
use Rattle.nats_pool.specs.declared.pool_options.Delay.{Delay}
use Rattle.nats_pool.specs.declared.pool_options.Delay.TheVariants as delay

-- the milliseconds before the attempt of this number: none before the first, then powers of two up to 4000
abbrev pub default_delay : ℕ → ℕ
default_delay attempts = if nat_le attempts 1 then 0 else min (2 ^ (attempts - 1)) 4000

module _ {X : Type 0} {F : X → Type 0} {g : Mut ((x : X) × F x) (ℕ × Unit {0}) ℕ} where
  -- the milliseconds are what the pool was told, where `Answers f n ms` says that f may answer ms to n
  abbrev pub WaitsBefore : (DelayFn X F g → ℕ → ℕ → Type 0) → Delay X F g → ℕ → ℕ → Type 0
  WaitsBefore Answers delay.Default attempts ms = ms ≡ default_delay attempts
  WaitsBefore Answers (delay.Custom f) attempts ms = Answers f attempts ms
