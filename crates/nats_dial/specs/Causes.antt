-- Why a round gave no link, over what the outside and the pool told before it and after it.
use Rattle.std.specs.Prelude.{◌≡◌, ◌≢◌, ◌⊎◌, ℕ, zero, suc, ◌+◌, ◌-◌, ◌≤◌, ◌<◌, Bool, true, false, if◌then◌else◌, List, [], ◌∷◌, ◌++◌, length, Option, Some, None, Result, IfSome}
use Rattle.std.specs.List.{concat}
use Rattle.nats_names.specs.declared.cause.Cause.TheVariants as cause
use Rattle.nats_info.specs.declared.info.ServerInfo.{ServerInfo}
use Rattle.nats_addr.specs.Addr.{is_tls, is_websocket}
use Rattle.nats_addr.specs.Resolving.{risen}
use Rattle.nats_addr.specs.declared.resolver.AskWord.TheVariants as ask
use Rattle.nats_pool.specs.Auths.{AuthValue}
use Rattle.nats_pool.specs.Pools.{passes}
use Rattle.nats_pool.specs.declared.pool_parts.Planned.{Planned}
use Rattle.nats_outside.specs.Counts.{Rose, RoseBy}
use Rattle.nats_outside.specs.Told.{Seen, ReadTold, WriteTold}
use Rattle.nats_outside.specs.declared.dialer.DialWord.TheVariants as word
use Rattle.nats_handshake.specs.declared.error.ConnectErrorKind.TheVariants as kind
use Rattle.nats_handshake.specs.Course.{io}
use Rattle.nats_handshake.specs.Errors.{Failure}
use Rattle.nats_handshake.specs.Shaking.{wanting}
use Rattle.nats_handshake.specs.Heard.{RefusesText, end_behind}
use Rattle.nats_pool.specs.Handing.{RoundTold}
use Rattle.nats_dial.specs.Tries.{IsUp, ends_round, unresolved, no_address, no_websocket, all_failed, too_many}

-- no count of the outside fell
pub record Onward (a b : Seen) : Type 0 where
  pub dial_faults : a.dialer.faults ≤ b.dialer.faults
  pub ends : a.dialer.ends ≤ b.dialer.ends
  pub dials : a.dialer.dials ≤ b.dialer.dials
  pub ask_faults : a.resolver.faults ≤ b.resolver.faults
  pub empties : a.resolver.empties ≤ b.resolver.empties
  pub askings : a.resolver.askings ≤ b.resolver.askings
  pub given : a.resolver.given ≤ b.resolver.given
  pub starts : a.clock.starts ≤ b.clock.starts

-- dials rose by at least the addresses that were given
abbrev pub EachDialed : Seen → Seen → Type 0
EachDialed a b = RoseBy (b.resolver.given - a.resolver.given) a.dialer.dials b.dialer.dials

-- the clock was started, it did not sleep since, and its last value is the timeout past the start or later
pub record IsLate (timeout : ℕ) (a b : Seen) : Type 0 where
  pub started : Rose a.clock.starts b.clock.starts
  pub awake : b.clock.slept ≡ false
  pub late : b.clock.start + timeout ≤ b.clock.last

-- a dial or a link failed, and that is the dialer's last word
abbrev pub LinkFailed : Seen → Seen → Type 0
LinkFailed a b = Rose a.dialer.faults b.dialer.faults × (b.dialer.word ≢ word.Fine)

-- a link ended, and its end or a failure is the dialer's last word
abbrev pub LinkEnded : Seen → Seen → Type 0
LinkEnded a b = Rose a.dialer.ends b.dialer.ends × (b.dialer.word ≢ word.Fine)

-- the last of these links gave pieces that are this text
pub record LastGave (text : List ℕ) (links : List (List (List ℕ) × List ℕ)) : Type 0 where
  pub before : List (List (List ℕ) × List ℕ)
  pub pieces : List (List ℕ)
  pub taken : List ℕ
  pub last : links ≡ before ++ (pieces, taken) ∷ []
  pub gave : concat pieces ≡ text

-- where the ended links are known, they were before, and others may have come behind them
abbrev pub Grew : {L : Type 0} → Option (List L) → Option (List L) → Type 0
Grew {L} before None = Unit {0}
Grew {L} before (Some links) = (old : List L) × (more : List L) × (before ≡ Some old) × (links ≡ old ++ more)

-- a count that was raised by one so many times
abbrev pub raised : ℕ → ℕ → ℕ
raised zero count = count
raised (suc n) count = risen 1 (raised n count)

-- as many links were handed back as came, and the ended links stand behind those of before
pub record AllBack (a b : Seen) : Type 0 where
  pub number : ℕ
  pub links : b.dialer.links ≡ raised number a.dialer.links
  pub backs : b.dialer.backs ≡ raised number a.dialer.backs
  pub ended : Grew a.dialer.ended b.dialer.ended

-- one more came than were handed back
pub record OneOut (a b : Seen) : Type 0 where
  pub number : ℕ
  pub links : b.dialer.links ≡ raised (suc number) a.dialer.links
  pub backs : b.dialer.backs ≡ raised number a.dialer.backs
  pub ended : Grew a.dialer.ended b.dialer.ended

-- how many of these servers are websockets, and how many others
abbrev pub sockets : List Planned → ℕ
sockets [] = 0
sockets (p ∷ more) = (if is_websocket p.addr then 1 else 0) + sockets more

abbrev pub plain : List Planned → ℕ
plain [] = 0
plain (p ∷ more) = (if is_websocket p.addr then 0 else 1) + plain more

-- the last of these servers is a websocket's
abbrev pub EndsInSocket : List Planned → Type 0
EndsInSocket [] = ⊥
EndsInSocket (p ∷ []) = is_websocket p.addr ≡ true
EndsInSocket (p ∷ q ∷ more) = EndsInSocket (q ∷ more)

-- the last of these servers wants TLS by its scheme
abbrev pub last_tls : List Planned → Bool
last_tls [] = false
last_tls (p ∷ []) = is_tls p.addr
last_tls (p ∷ q ∷ more) = last_tls (q ∷ more)

module _ {P : Type 0} (Takes : P → P → List (List ℕ) → List (List ℕ) → Type 0)
    (Offers : List ℕ → Result AuthValue (List ℕ) → Type 0) (by_option : Bool) (name : Option (List ℕ)) (no_echo : Bool)
    (timeout : ℕ)
  where
    -- the text that the last link gave, which was handed back, is refused with this error
    abbrev pub LastRefused : Bool → Failure → Seen → Type 0
    LastRefused by_scheme e b = (text : List ℕ) × IfSome b.dialer.ended (LastGave text)
        × ((p : P) × (q : P) × RefusesText (Takes p q) (q ≡ p) Offers by_option name no_echo by_scheme text e)

    -- why no link came of a server: want of memory, a timeout, a failure, the link's end, or what the link gave is
    -- refused
    abbrev pub LinkCause : Bool → Seen → Failure → Seen → Type 0
    LinkCause by_scheme a e b = (e ≡ wanting) ⊎ (((e ≡ (kind.TimedOut, None)) × IsLate timeout a b)
        ⊎ (((e ≡ io cause.Fault) × LinkFailed a b)
        ⊎ (((text : List ℕ) × IfSome b.dialer.ended (LastGave text) × (e ≡ io (end_behind text)) × LinkEnded a b)
        ⊎ LastRefused by_scheme e b)))

    -- why no link came of a server, of which these were tried: also where the resolver failed or gave no address,
    -- or the last of them is a websocket's
    abbrev pub ServerCause : List Planned → Seen → Failure → Seen → Type 0
    ServerCause tried a e b =
        ((e ≡ unresolved) × Rose a.resolver.faults b.resolver.faults × (b.resolver.word ≡ ask.Failed))
        ⊎ (((e ≡ no_address) × Rose a.resolver.empties b.resolver.empties × (b.resolver.word ≡ ask.Empty))
        ⊎ (((e ≡ no_websocket) × EndsInSocket tried) ⊎ LinkCause (last_tls tried) a e b))

-- the attempts passed their limit; they rose by at most one more than the askings and the websockets together
pub record IsSpent (tried : List Planned) (before after : RoundTold) (a b : Seen) : Type 0 where
  pub passed : passes after.limit after.attempts ≡ true
  pub attempts : RoseBy (after.attempts - before.attempts - 1 - sockets tried) a.resolver.askings b.resolver.askings

-- a link came up of one of these servers, which is no websocket's, by a dial of this call and in time
pub record CameUp (Offers : List ℕ → Result AuthValue (List ℕ) → Type 0) (by_option : Bool) (name : Option (List ℕ))
    (no_echo : Bool) (timeout : ℕ) (servers : List Planned) (info : ServerInfo) (rest : List ℕ) (r : ReadTold)
    (w : WriteTold) (a b : Seen) : Type 0 where
  pub before : List Planned
  pub server : Planned
  pub later : List Planned
  pub among : servers ≡ before ++ server ∷ later
  pub no_socket : is_websocket server.addr ≡ false
  pub up : IsUp Offers by_option (is_tls server.addr) name no_echo info rest r w
  pub dialed : Rose a.dialer.dials b.dialer.dials
  pub started : Rose a.clock.starts b.clock.starts
  pub awake : b.clock.slept ≡ false
  pub in_time : b.clock.last < b.clock.start + timeout
  pub out : OneOut a b

-- some servers of a round were tried, the first ones
pub record HasTried (servers tried rest : List Planned) (a b : Seen) : Type 0 where
  pub all : servers ≡ tried ++ rest
  pub onward : Onward a b
  pub askings : RoseBy (plain tried) a.resolver.askings b.resolver.askings

module _ {P : Type 0} (Takes : P → P → List (List ℕ) → List (List ℕ) → Type 0)
    (Offers : List ℕ → Result AuthValue (List ℕ) → Type 0) (by_option : Bool) (name : Option (List ℕ)) (no_echo : Bool)
    (timeout : ℕ)
  where
    -- why none of these servers gave a link, of which the first ones were tried: there was none; the attempts
    -- passed their limit; or one of them ended the round, or the last one failed
    abbrev pub Why : List Planned → List Planned → RoundTold → RoundTold → Seen → Failure → Seen → Type 0
    Why tried rest before after a e b = ((e ≡ all_failed) × (tried ≡ []) × (rest ≡ []))
        ⊎ (((e ≡ too_many) × IsSpent tried before after a b × EachDialed a b)
        ⊎ (ServerCause Takes Offers by_option name no_echo timeout tried a e b
        × (ends_round e.0 ≡ false → (rest ≡ []) × EachDialed a b)))

    -- why a round gave no link: want of memory, or so
    abbrev pub RoundCause : RoundTold → RoundTold → Seen → Failure → Seen → Type 0
    RoundCause before after a e b = (e ≡ wanting) ⊎ ((tried : List Planned) × (rest : List Planned)
        × HasTried after.round tried rest a b × (after.handed ≡ length tried) × Why tried rest before after a e b)
