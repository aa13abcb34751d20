-- How a round that gave no link began.
use Rattle.std.specs.Prelude.{◌≡◌}
use Rattle.nats_info.specs.declared.info.ServerInfo.{ServerInfo}
use Rattle.nats_pool.specs.declared.pool_parts.Choice.{Choice}
use Rattle.nats_pool.specs.Handing.{RoundTold}
use Rattle.nats_handshake.specs.Errors.{Failure}
use Rattle.nats_handshake.specs.Shaking.{wanting}

-- memory was wanting for it; or it began, and what the pool tells of its servers and its limit stays so to its end
pub data BeganRound {P : Type 0} (Begins : ServerInfo → P → P → Choice → Type 0) (told : P → RoundTold)
    (last : ServerInfo) (p q : P) (e : Failure) : Type 0 where
  wants : e ≡ wanting → BeganRound Begins told last p q e
  began : (chosen : Choice) (n : P) → Begins last p n chosen → (told q).round ≡ (told n).round
      → (told q).limit ≡ (told n).limit → BeganRound Begins told last p q e

-- the same of a round that gave a link
pub record BeganWell {P : Type 0} (Begins : ServerInfo → P → P → Choice → Type 0) (told : P → RoundTold)
    (last : ServerInfo) (p q : P) : Type 0 where
  pub chosen : Choice
  pub begun : P
  pub begins : Begins last p begun chosen
  pub round : (told q).round ≡ (told begun).round
  pub limit : (told q).limit ≡ (told begun).limit
