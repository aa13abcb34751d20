-- The calls of a pool change what it tells of its round as each call on a round does.
use Rattle.std.specs.Prelude.{◌≡◌, refl, ℕ, true, false, Bool, List, Option}
use Rattle.std.proofs.Common.{ap}
use Rattle.std.specs.Global.{Vec}
use denote.Param.Members.{Mut}
use Rattle.url.specs.Parts.{Parts}
use Rattle.nats_info.specs.declared.info.ServerInfo.{ServerInfo}
use Rattle.nats_pool.specs.declared.callbacks.ChoiceFn.{ChoiceFn}
use Rattle.nats_pool.specs.declared.callbacks.DelayFn.{DelayFn}
use Rattle.nats_pool.specs.declared.pool_parts.Choice.{Choice}
use Rattle.nats_pool.specs.declared.pool_parts.Next.{Next}
use Rattle.nats_pool.specs.declared.pool_parts.Next.TheVariants as next
use Rattle.nats_pool.specs.declared.pool_parts.Outcome.{Outcome}
use Rattle.nats_pool.specs.declared.pool_parts.Pool.{Pool}
use Rattle.nats_pool.specs.declared.server.Server.{Server}
use Rattle.nats_pool.specs.declared.server.ReconnectToServer.{ReconnectToServer}
use Rattle.nats_pool.specs.Discovery.{Discovers, DiscoversWhere}
use Rattle.nats_pool.specs.Pools.{Begins, HandsOut, Reports, options_of}
use Rattle.nats_pool.specs.Handing.{IsBegun, HandsNext, told_of, pool_told}

module _ {X Y : Type 0} {F : X → Type 0} {G : Y → Type 0} {g : Mut ((x : X) × F x) (ℕ × Unit {0}) ℕ}
    {h : Mut ((y : Y) × G y) (Vec Server × (ServerInfo × Unit {0})) (Option ReconnectToServer)} where
  takes_where : (ignores : Bool) (urls : List (List ℕ)) (a b : Pool X Y F G g h) (skipped : List (List ℕ))
      → DiscoversWhere ignores urls a b skipped → pool_told b ≡ pool_told a
  takes_where true urls a b skipped d = ap pool_told d.1
  takes_where false urls a b skipped d = ap pool_told d.2

  pub pool_takes : (a b : Pool X Y F G g h) (urls skipped : List (List ℕ))
      → Discovers urls a b skipped → pool_told b ≡ pool_told a
  pool_takes a b urls skipped d = takes_where (options_of a).ignore_discovered_servers urls a b skipped d

  pub pool_begins : (Answers : ChoiceFn Y G h → Vec Server → ServerInfo → Option ReconnectToServer → Type 0)
      (last : ServerInfo) (a b : Pool X Y F G g h) (chosen : Choice)
      → Begins Answers last a b chosen → IsBegun (pool_told a) (pool_told b)
  pool_begins Answers last a b chosen s = (s.handed, s.attempts, ap (λ o. o.max_reconnects) s.options)

  pub pool_hands : (Answers : DelayFn X F g → ℕ → ℕ → Type 0) (a b : Pool X Y F G g h) (n : Next)
      → HandsOut Answers a b n → HandsNext (pool_told a) n (pool_told b)
  pool_hands Answers a b (next.Try attempt) t = rw t.after_it (t.planned, t.first, t.there, t.within, refl)
  pool_hands Answers a b next.Over o = (o.0, ap pool_told o.1)
  pool_hands Answers a b next.MaxReconnects o = (o.0, o.1, ap pool_told o.2)

  pub pool_counts : (addr : Parts) (outcome : Outcome) (a b : Pool X Y F G g h)
      → Reports addr outcome a b → pool_told b ≡ told_of outcome (pool_told a)
  pool_counts addr outcome a b r = ap pool_told r.rest
