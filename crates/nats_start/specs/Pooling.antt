-- What the calls of a client on its pool answer.
use Rattle.std.specs.Prelude.{◌≡◌, ◌≢◌, ◌⊎◌, ℕ, List, [], Result, Ok, Err, codes}
use Rattle.url.specs.Parts.{Parts}
use Rattle.nats_names.specs.declared.addr_error.AddrError.{AddrError}
use Rattle.nats_names.specs.declared.addr_error.AddrError.TheVariants as addr_error
use Rattle.nats_pool.specs.declared.pool_error.SetServerPoolErrorKind.{SetServerPoolErrorKind}
use Rattle.nats_pool.specs.declared.pool_error.SetServerPoolErrorKind.TheVariants as kind
use Rattle.nats_start.specs.declared.servers.ServerPoolError.{ServerPoolError}
use Rattle.nats_start.specs.declared.servers.ServerPoolError.TheVariants as refused

-- these are the servers that the pool had at some moment of the call
abbrev pub HeldBy : {Q S : Type 0} → (Q → List S) → List S → Type 0
HeldBy {Q} servers all = (pool : Q) × (all ≡ servers pool)

-- why addresses are none: one does not parse, or memory was wanting
abbrev pub WhyNotParsed : Result (List Parts) AddrError → SetServerPoolErrorKind → Type 0
WhyNotParsed addrs kind.InvalidAddress = (addrs ≡ Err addr_error.Url) ⊎ (addrs ≡ Err addr_error.Scheme)
WhyNotParsed addrs kind.NoMemory = Unit {0}
WhyNotParsed addrs kind.Send = ⊥
WhyNotParsed addrs kind.EmptyPool = ⊥
WhyNotParsed addrs kind.MixedSchemes = ⊥

-- the pool, at some moment of the call, did this with a list that is not empty
abbrev pub AsPool : {Q : Type 0} → (List Parts → Q → Q → Result (Unit {0}) SetServerPoolErrorKind → Type 0)
    → Result (List Parts) AddrError → Result (Unit {0}) SetServerPoolErrorKind → Type 0
AsPool {Q} Sets addrs result = (list : List Parts) × (addrs ≡ Ok list) × (list ≢ [])
    × ((before : Q) × (after : Q) × Sets list before after result)

-- servers were replaced, or why not: an address does not parse; there is none; the session is closed; or so the pool
-- answered
abbrev pub SetsOrNot : {Q : Type 0} → (List Parts → Q → Q → Result (Unit {0}) SetServerPoolErrorKind → Type 0)
    → Result (List Parts) AddrError → Result (Unit {0}) SetServerPoolErrorKind → Type 0
SetsOrNot Sets addrs (Ok done) = AsPool Sets addrs (Ok done)
SetsOrNot Sets addrs (Err kind.InvalidAddress) =
    WhyNotParsed addrs kind.InvalidAddress ⊎ AsPool Sets addrs (Err kind.InvalidAddress)
SetsOrNot Sets addrs (Err kind.EmptyPool) = (addrs ≡ Ok []) ⊎ AsPool Sets addrs (Err kind.EmptyPool)
SetsOrNot Sets addrs (Err kind.Send) = (list : List Parts) × (addrs ≡ Ok list) × (list ≢ [])
SetsOrNot Sets addrs (Err kind.MixedSchemes) = AsPool Sets addrs (Err kind.MixedSchemes)
SetsOrNot Sets addrs (Err kind.NoMemory) = Unit {0}

-- what an error of the call that tells the servers prints
abbrev pub server_pool_text : ServerPoolError → List ℕ
server_pool_text refused.Send = codes "failed to send server_pool command"
server_pool_text refused.NoMemory = codes "out of memory"
