-- What the first steps of connecting come to.
use Rattle.std.specs.Prelude.{◌≡◌, ◌⊎◌, ℕ, Bool, true, List, Option, Some, None, Result, Err, codes}
use Rattle.url.specs.Parts.{Parts}
use Rattle.nats_names.specs.declared.addr_error.AddrError.{AddrError}
use Rattle.nats_names.specs.declared.cause.Cause.TheVariants as cause
use Rattle.nats_pool.specs.Auths.{AuthValue}
use Rattle.nats_pool.specs.Discovery.{skipped_of}
use Rattle.nats_pool.specs.Handing.{RoundTold}
use Rattle.nats_outside.specs.Told.{Seen, ReadTold, WriteTold, hung_up}
use Rattle.nats_handshake.specs.Errors.{Failure}
use Rattle.nats_handshake.specs.Shaking.{wanting}
use Rattle.nats_handshake.specs.declared.error.ConnectErrorKind.TheVariants as kind
use Rattle.nats_dial.specs.Causes.{AllBack, OneOut, RoundCause}
use Rattle.nats_dial.specs.Tries.{failure_text}
use Rattle.nats_start.specs.declared.refused.Stopped.{Stopped}
use Rattle.nats_start.specs.declared.refused.Stopped.TheVariants as stop

-- an address doesn't parse, or memory was wanting for them
abbrev pub WhyNotParsed : Result (List Parts) AddrError → Failure → Type 0
WhyNotParsed addrs e =
    (e ≡ wanting) ⊎ ((x : AddrError) × (e ≡ (kind.ServerParse, Some (cause.Addr x))) × (addrs ≡ Err x))

-- what comes of the addresses of servers that an INFO tells of: those that spell none are skipped
abbrev pub TakesTexts : Unit {0} → Unit {0} → List (List ℕ) → List (List ℕ) → Type 0
TakesTexts before after urls skipped = skipped ≡ skipped_of urls

-- an error of connecting, or that no thread could be started
abbrev pub stopped_text : Stopped → List ℕ
stopped_text (stop.Connect e) = failure_text e
stopped_text stop.Spawn = codes "no thread for the driver"

-- where there is a link one more came than were handed back, else as many
abbrev pub LinkOut : {L : Type 0} → Seen → Seen → Option L → Type 0
LinkOut a b (Some link) = OneOut a b
LinkOut a b None = AllBack a b

-- a link was handed back, its writing half shut first
pub record HandsBack (r : ReadTold) (a b : Seen) : Type 0 where
  pub shut : WriteTold
  pub is_shut : shut.is_shut ≡ true
  pub back : b ≡ record a { dialer = hung_up r shut a.dialer }

-- there is a world, of which this holds
abbrev pub HasWorld : {W : Type 0} → (W → Type 0) → Option W → Type 0
HasWorld Is (Some w) = Is w
HasWorld Is None = ⊥

module _ (Offers : List ℕ → Result AuthValue (List ℕ) → Type 0) (by_option : Bool) (name : Option (List ℕ))
    (no_echo : Bool) (timeout : ℕ)
  where
    -- a round gave no link, over what the world told before it and after it
    abbrev pub RoundFailed : Seen → Failure → Seen → Type 0
    RoundFailed a e b = (before : RoundTold) × (after : RoundTold)
        × RoundCause TakesTexts Offers by_option name no_echo timeout before after a e b
