-- Which servers a round has, and in which order.
use Rattle.std.specs.Prelude.{◌≡◌, ◌≤◌, ℕ, ◌+◌, Bool, true, false, List, [], ◌∷◌, map, length, drop, Option, Some, None, IsPermutation}
use Rattle.std.specs.List.Sorted.{IsNonDecreasingBy, IsStableByKey}
use Rattle.std.specs.Ordering.{nat_cmp}
use Rattle.rand_core.specs.Stream.{Stream}
use Rattle.rand_core.specs.Steps.{stream_of, steps_u64_high}
use Rattle.rand_xoshiro.specs.Xoshiro256.{plus_plus}
use Rattle.rand.specs.Shuffle.{shuffled}
use Rattle.nats_pool.specs.declared.server.Server.{Server}
use Rattle.nats_pool.specs.declared.server.ReconnectToServer.{ReconnectToServer}
use Rattle.nats_pool.specs.declared.pool_parts.Planned.{Planned}
use Rattle.nats_pool.specs.declared.pool_parts.Choice.{Choice}
use Rattle.nats_pool.specs.declared.pool_parts.Choice.TheVariants as choice
use Rattle.nats_pool.specs.Servers.{has_server}

-- a server of a round of all servers
abbrev pub plan_of : Server → Planned
plan_of s = record { addr = s.addr; failed_attempts = s.failed_attempts; delay = None }

-- the one server of a round that the callback named
abbrev pub plan_of_target : ReconnectToServer → Planned
plan_of_target target = record { addr = target.addr; failed_attempts = 0; delay = target.delay }

abbrev pub failures : Planned → ℕ
failures p = p.failed_attempts

-- the numbers that the pool's generator will give
abbrev pub numbers_of : List ℕ → Stream
numbers_of = stream_of (steps_u64_high plus_plus)

-- a stable sort by failures: the same servers, ascending, and those with equal failures as they stood
pub record IsStablySorted (before after : List Planned) : Type 0 where
  pub permutation : IsPermutation before after
  pub ascending : IsNonDecreasingBy failures after
  pub stable : IsStableByKey failures nat_cmp before after

-- the servers shuffled by these numbers and then stably sorted, and the numbers that are left
pub record IsOrdered (before : List Planned) (numbers : Stream) (after : List Planned) (left : Stream) : Type 0 where
  pub mid : List Planned
  pub drawn : (mid, left) ≡ shuffled before 0 numbers
  pub sorted : IsStablySorted mid after
  pub permutation : IsPermutation before after

-- the order of a round of all servers: that of the pool where it is retained
abbrev pub IsDefaultOrder : Bool → List Planned → Stream → List Planned → Stream → Type 0
IsDefaultOrder true before numbers after left = (after ≡ before) × (left ≡ numbers)
IsDefaultOrder false before numbers after left = IsOrdered before numbers after left

-- how a round came about, and its servers, where a server was named that is in the pool, or isn't
abbrev pub IsRoundWith : Bool → ReconnectToServer → List Server → Bool → Stream → Choice → List Planned → Stream
    → Type 0
IsRoundWith true target servers retains numbers chosen plan left =
    (chosen ≡ choice.Callback) × (plan ≡ plan_of_target target ∷ []) × (left ≡ numbers)
IsRoundWith false target servers retains numbers chosen plan left =
    (chosen ≡ choice.NotInPool) × IsDefaultOrder retains (map plan_of servers) numbers plan left

-- the same by what was named
abbrev pub IsRoundBy : Option ReconnectToServer → List Server → Bool → Stream → Choice → List Planned → Stream → Type 0
IsRoundBy None servers retains numbers chosen plan left =
    (chosen ≡ choice.Default) × IsDefaultOrder retains (map plan_of servers) numbers plan left
IsRoundBy (Some target) servers retains numbers chosen plan left =
    IsRoundWith (has_server servers target.addr) target servers retains numbers chosen plan left

-- a round hands its next server out; none exactly where all were
abbrev pub TakesNext : List Planned × ℕ → List Planned × ℕ → Option Planned → Type 0
TakesNext before after None = (length before.0 ≤ before.1) × (after ≡ before)
TakesNext before after (Some p) =
    (drop before.1 before.0 ≡ p ∷ drop (before.1 + 1) before.0) × (after ≡ (before.0, before.1 + 1))
