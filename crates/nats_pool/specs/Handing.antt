-- What a round of servers tells, and what each call on it changes of that.
use Rattle.std.specs.Prelude.{◌≡◌, ◌+◌, ◌≤◌, ℕ, true, false, List, ◌∷◌, length, drop, Option}
use Rattle.std.specs.Global.{Vec}
use denote.Param.Members.{Mut}
use Rattle.nats_info.specs.declared.info.ServerInfo.{ServerInfo}
use Rattle.nats_pool.specs.declared.pool_parts.Planned.{Planned}
use Rattle.nats_pool.specs.declared.pool_parts.Next.{Next}
use Rattle.nats_pool.specs.declared.pool_parts.Next.TheVariants as next
use Rattle.nats_pool.specs.declared.pool_parts.Outcome.{Outcome}
use Rattle.nats_pool.specs.declared.pool_parts.Pool.{Pool}
use Rattle.nats_pool.specs.declared.server.Server.{Server}
use Rattle.nats_pool.specs.declared.server.ReconnectToServer.{ReconnectToServer}
use Rattle.nats_pool.specs.Pools.{passes, one_more, attempts_after, round_of, handed_of, attempts_of, options_of}

-- the servers of the last round, how many of them were handed out, how many attempts were made since the last
-- success, and how many may be made
pub record RoundTold : Type 0 where
  pub round : List Planned
  pub handed : ℕ
  pub attempts : ℕ
  pub limit : Option ℕ

-- the servers that were not handed out yet
abbrev pub left_of : RoundTold → List Planned
left_of t = drop t.handed t.round

-- a round begins, whatever its servers
abbrev pub IsBegun : RoundTold → RoundTold → Type 0
IsBegun before after = (after.handed ≡ 0) × (after.attempts ≡ before.attempts) × (after.limit ≡ before.limit)

-- after an attempt was counted, and a server was handed out
abbrev pub counted : RoundTold → RoundTold
counted t = record t { attempts = one_more t.attempts }

abbrev pub handed_on : RoundTold → RoundTold
handed_on t = record t { attempts = one_more t.attempts; handed = t.handed + 1 }

-- what is handed out next: the next server, while the attempts do not pass their limit
abbrev pub HandsNext : RoundTold → Next → RoundTold → Type 0
HandsNext before (next.Try attempt) after = (planned : Planned) × (left_of before ≡ planned ∷ left_of after)
    × (attempt.addr ≡ planned.addr) × (passes before.limit (one_more before.attempts) ≡ false)
    × (after ≡ handed_on before)
HandsNext before next.Over after = (length before.round ≤ before.handed) × (after ≡ before)
HandsNext before next.MaxReconnects after = (1 + before.handed ≤ length before.round)
    × (passes before.limit (one_more before.attempts) ≡ true) × (after ≡ counted before)

-- after an attempt went so
abbrev pub told_of : Outcome → RoundTold → RoundTold
told_of outcome t = record t { attempts = attempts_after outcome t.attempts }

module _ {X Y : Type 0} {F : X → Type 0} {G : Y → Type 0} {g : Mut ((x : X) × F x) (ℕ × Unit {0}) ℕ}
    {h : Mut ((y : Y) × G y) (Vec Server × (ServerInfo × Unit {0})) (Option ReconnectToServer)} where
  -- what a pool tells of its round
  abbrev pub pool_told : Pool X Y F G g h → RoundTold
  pool_told pool = record {
    round = round_of pool;
    handed = handed_of pool;
    attempts = attempts_of pool;
    limit = (options_of pool).max_reconnects;
  }
