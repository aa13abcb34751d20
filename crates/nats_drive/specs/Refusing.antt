-- Why a client was not connected.
use Rattle.std.specs.Prelude.{◌≡◌, ◌⊎◌, ℕ, Bool, List, Option, Some, None, Result}
use Rattle.url.specs.Parts.{Parts}
use Rattle.nats_names.specs.declared.addr_error.AddrError.{AddrError}
use Rattle.nats_addr.specs.Resolving.{risen}
use Rattle.nats_pool.specs.Auths.{AuthValue}
use Rattle.nats_outside.specs.Told.{Seen}
use Rattle.nats_handshake.specs.Errors.{Failure}
use Rattle.nats_handshake.specs.Shaking.{wanting}
use Rattle.nats_dial.specs.Causes.{AllBack}
use Rattle.nats_start.specs.Steps.{RoundFailed, WhyNotParsed}
use Rattle.nats_start.specs.declared.refused.Refused.{Refused}
use Rattle.nats_start.specs.declared.refused.Stopped.{Stopped}
use Rattle.nats_start.specs.declared.refused.Stopped.TheVariants as stop

-- a refusal behind the first round: memory was wanting, and the world comes back with each link that came; or the
-- driver was not started, which the starter counted
abbrev pub StartsWith : {W : Type 0} → (W → Seen) → Seen → ℕ → ℕ → Stopped → Option W → Type 0
StartsWith {W} seen a before after (stop.Connect e) (Some w) = (after ≡ before) × AllBack a (seen w) × (e ≡ wanting)
StartsWith {W} seen a before after (stop.Connect e) None = ⊥
StartsWith {W} seen a before after stop.Spawn (Some w) = ⊥
StartsWith {W} seen a before after stop.Spawn None = after ≡ risen 1 before

abbrev pub RefusesStarting : {W : Type 0} → (W → Seen) → Seen → ℕ → ℕ → Refused W → Type 0
RefusesStarting {W} seen a before after r = StartsWith seen a before after r.error r.world

module _ (Offers : List ℕ → Result AuthValue (List ℕ) → Type 0) (by_option : Bool) (name : Option (List ℕ))
    (no_echo : Bool) (timeout : ℕ)
  where
    -- why no link came about, once there is a pool: memory was wanting, or the round gave none
    abbrev pub WhyNotLinked : Seen → Failure → Seen → Type 0
    WhyNotLinked a e b = (e ≡ wanting) ⊎ RoundFailed Offers by_option name no_echo timeout a e b

    -- a refusal hands the world back with each link that came, unless the driver was not started, which the starter
    -- counted
    abbrev pub LinksWith : {W : Type 0} → (W → Seen) → Seen → ℕ → ℕ → Stopped → Option W → Type 0
    LinksWith {W} seen a before after (stop.Connect e) (Some w) =
        (after ≡ before) × AllBack a (seen w) × WhyNotLinked a e (seen w)
    LinksWith {W} seen a before after (stop.Connect e) None = ⊥
    LinksWith {W} seen a before after stop.Spawn (Some w) = ⊥
    LinksWith {W} seen a before after stop.Spawn None = after ≡ risen 1 before

    abbrev pub RefusesLinking : {W : Type 0} → (W → Seen) → Seen → ℕ → ℕ → Refused W → Type 0
    RefusesLinking {W} seen a before after r = LinksWith seen a before after r.error r.world

    -- a refusal of a call that is handed addresses hands the world back with each link that came, unless the driver was
    -- not started, which the starter counted; an address does not parse, or no link came about
    abbrev pub ConnectsWith : {W : Type 0} → (W → Seen) → Result (List Parts) AddrError → Seen → ℕ → ℕ → Stopped
        → Option W → Type 0
    ConnectsWith {W} seen addrs a before after (stop.Connect e) (Some w) =
        (after ≡ before) × AllBack a (seen w) × (WhyNotParsed addrs e ⊎ WhyNotLinked a e (seen w))
    ConnectsWith {W} seen addrs a before after (stop.Connect e) None = ⊥
    ConnectsWith {W} seen addrs a before after stop.Spawn (Some w) = ⊥
    ConnectsWith {W} seen addrs a before after stop.Spawn None = after ≡ risen 1 before

    abbrev pub RefusesConnecting : {W : Type 0} → (W → Seen) → Result (List Parts) AddrError → Seen → ℕ → ℕ → Refused W
        → Type 0
    RefusesConnecting {W} seen addrs a before after r = ConnectsWith seen addrs a before after r.error r.world
