-- What the outside tells once an address was dialed.
use Rattle.std.proofs.Common.{◌≡◌, ◌∙◌, ap, subst, ℕ, Bool, List, Option, Result, Ok, Err}
use Rattle.std.specs.declared.net.socket_addr.SocketAddr.{SocketAddr}
use Rattle.url.specs.Parts.{Parts}
use Rattle.nats_pool.specs.Auths.{AuthValue}
use Rattle.nats_outside.specs.Told.{Seen, ReadTold, WriteTold, ClockTold, dialed, hung_up, started, looked}
use Rattle.nats_handshake.specs.Errors.{Failure}
use Rattle.nats_dial.specs.Tries.{Unshaken, undialed, upped, returned, timed}

-- the clock was started
start_of : ℕ → Seen → Seen
start_of start a = record a { clock = started start a.clock }

-- a link was dialed then
abbrev dial_of : ℕ → SocketAddr → Seen → Seen
dial_of within to a = record a { dialer = dialed {L = Unit {0}} {E = Unit {0}} to within (Ok tt) a.dialer }

-- the clock was looked at
abbrev look_of : ℕ → Seen → Seen
look_of last a = record a { clock = looked last a.clock }

pub undialed_is : (within : ℕ) (to : SocketAddr) (start : ℕ) (a s b : Seen) → s ≡ record a { clock = started start a.clock }
    → b ≡ record s { dialer = dialed {L = Unit {0}} {E = Unit {0}} to within (Err tt) s.dialer } → b ≡ undialed within to start a
undialed_is within to start a s b first second =
    second ∙ ap (λ (x : Seen). record x { dialer = dialed {L = Unit {0}} {E = Unit {0}} to within (Err tt) x.dialer }) first

pub upped_is : (within : ℕ) (to : SocketAddr) (start look : ℕ) (a s d b : Seen) → s ≡ record a { clock = started start a.clock }
    → d ≡ record s { dialer = dialed {L = Unit {0}} {E = Unit {0}} to within (Ok tt) s.dialer }
    → b ≡ record d { clock = looked look d.clock } → b ≡ upped within to start look a
upped_is within to start look a s d b first second third =
    third ∙ ap (look_of look) (second ∙ ap (dial_of within to) first)

pub returned_is : (within : ℕ) (to : SocketAddr) (start look : ℕ) (r : ReadTold) (w : WriteTold) (a s d g b : Seen)
    → s ≡ record a { clock = started start a.clock }
    → d ≡ record s { dialer = dialed {L = Unit {0}} {E = Unit {0}} to within (Ok tt) s.dialer }
    → g ≡ record d { clock = looked look d.clock }
    → b ≡ record g { dialer = hung_up r w g.dialer } → b ≡ returned within to start look r w a
returned_is within to start look r w a s d g b first second third fourth =
    fourth ∙ ap (λ (x : Seen). record x { dialer = hung_up r w x.dialer }) (upped_is within to start look a s d g first second third)

module _ {P : Type 0} (Takes : P → P → List (List ℕ) → List (List ℕ) → Type 0)
    (Offers : List ℕ → Result AuthValue (List ℕ) → Type 0) (by_option : Bool) (name : Option (List ℕ)) (no_echo : Bool)
    (timeout : ℕ) (addr : Parts)
  where
    pub unshaken_at : (to : SocketAddr) (start look : ℕ) (r : ReadTold) (w : WriteTold) (a s d g : Seen) (e : Failure)
        → s ≡ record a { clock = started start a.clock }
        → d ≡ record s { dialer = dialed {L = Unit {0}} {E = Unit {0}} to timeout (Ok tt) s.dialer }
        → g ≡ record d { clock = looked look d.clock }
        → Unshaken Takes Offers by_option name no_echo timeout addr start e r w g.clock
        → Unshaken Takes Offers by_option name no_echo timeout addr start e r w (timed start look a.clock)
    unshaken_at to start look r w a s d g e first second third why =
        subst (λ (c : ClockTold). Unshaken Takes Offers by_option name no_echo timeout addr start e r w c)
        (ap (λ (x : Seen). x.clock) (upped_is timeout to start look a s d g first second third)) why
