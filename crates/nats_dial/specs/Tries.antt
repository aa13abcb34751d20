-- What is tried to get a link: an address, the addresses of a server, the servers of a round.
use Rattle.std.specs.Prelude.{◌≡◌, ◌⊎◌, ℕ, ◌+◌, ◌<◌, Bool, true, false, List, [], ◌∷◌, Option, Some, None, Result, Ok, Err}
use Rattle.std.specs.declared.net.socket_addr.SocketAddr.{SocketAddr}
use Rattle.url.specs.Parts.{Parts}
use Rattle.nats_names.specs.declared.cause.Cause.TheVariants as cause
use Rattle.nats_names.specs.Causes.{source_text}
use Rattle.nats_info.specs.declared.info.ServerInfo.{ServerInfo}
use Rattle.nats_addr.specs.Addr.{is_tls, is_websocket, host_name, port_of}
use Rattle.nats_addr.specs.Resolving.{gave, failed, wanted}
use Rattle.nats_addr.specs.declared.resolver.ResolveError.{ResolveError}
use Rattle.nats_addr.specs.declared.resolver.ResolveError.TheVariants as refusal
use Rattle.nats_pool.specs.Auths.{AuthValue}
use Rattle.nats_pool.specs.declared.pool_parts.Attempt.{Attempt}
use Rattle.nats_pool.specs.declared.pool_parts.Choice.{Choice}
use Rattle.nats_pool.specs.declared.pool_parts.Next.{Next}
use Rattle.nats_pool.specs.declared.pool_parts.Next.TheVariants as next
use Rattle.nats_pool.specs.declared.pool_parts.Outcome.{Outcome}
use Rattle.nats_pool.specs.declared.pool_parts.Outcome.TheVariants as outcome
use Rattle.nats_pool.specs.declared.pool_parts.Planned.{Planned}
use Rattle.nats_outside.specs.Told.{Seen, ReadTold, WriteTold, ClockTold, dialed, hung_up, started, slept}
use Rattle.nats_handshake.specs.declared.error.ConnectErrorKind.{ConnectErrorKind}
use Rattle.nats_handshake.specs.declared.error.ConnectErrorKind.TheVariants as kind
use Rattle.nats_handshake.specs.Course.{io}
use Rattle.nats_handshake.specs.Errors.{Failure, kind_text}
use Rattle.nats_handshake.specs.Shaking.{wanting, wants_tls}
use Rattle.nats_handshake.specs.Heard.{Wrote, Succeeds}
use Rattle.nats_dial.specs.declared.linked.Linked.{Linked}
use Rattle.nats_dial.specs.Lines.{Gave, Opens, Took, Broke}
use Rattle.nats_dial.specs.Taking.{TookIn}
use Rattle.nats_pool.specs.Handing.{RoundTold, left_of}

-- ---- a link

-- a link that is up: TLS was wanted neither by the option nor by the scheme of the address nor by the INFO; what its
-- halves gave and took is a handshake that succeeds with this INFO and leaves this rest, and no fewer of its pieces
-- hold that success; and reads wait for as long as it takes
pub record IsUp (Offers : List ℕ → Result AuthValue (List ℕ) → Type 0) (by_option by_scheme : Bool)
    (name : Option (List ℕ)) (no_echo : Bool)
    (info : ServerInfo) (rest : List ℕ) (r : ReadTold) (w : WriteTold) : Type 0 where
  pub text : List ℕ
  pub wrote : List ℕ
  pub said : List ℕ
  pub plain : wants_tls by_option by_scheme info ≡ false
  pub offers : Wrote Offers name no_echo info said wrote
  pub succeeds : Succeeds info rest said text
  pub gave : Gave text r
  pub opens : Opens text r
  pub took : Took wrote w
  pub no_ends : r.ends ≡ 0
  pub no_faults : r.faults ≡ 0
  pub no_write_faults : w.faults ≡ 0
  pub no_wait : r.wait ≡ None

-- ---- errors

-- an error that ends a round at once
abbrev pub ends_round : ConnectErrorKind → Bool
ends_round kind.AuthorizationViolation = true
ends_round kind.Authentication = true
ends_round kind.MaxReconnects = true
ends_round kind.NoMemory = true
ends_round kind.ServerParse = false
ends_round kind.Dns = false
ends_round kind.TimedOut = false
ends_round kind.Tls = false
ends_round kind.Io = false

-- what an error prints
abbrev pub failure_text : Failure → List ℕ
failure_text e = source_text e.1 (kind_text e.0)

-- an address is a websocket's, which this library has not
abbrev pub no_websocket : Failure
no_websocket = (kind.ServerParse, None)

-- the resolver failed, or gave no address
abbrev pub unresolved : Failure
unresolved = (kind.Dns, Some cause.Fault)

abbrev pub no_address : Failure
no_address = (kind.Dns, Some cause.NoAddress)

-- no server was tried
abbrev pub all_failed : Failure
all_failed = io cause.AllFailed

-- the attempts passed their limit
abbrev pub too_many : Failure
too_many = (kind.MaxReconnects, None)

-- ---- what the outside tells after a start of the clock at that time, a dial within so many milliseconds, the last
-- look at the clock then, and what becomes of a link

abbrev pub timed : ℕ → ℕ → ClockTold → ClockTold
timed start look c = record (started start c) { last = look }

-- the dial failed
abbrev pub undialed : ℕ → SocketAddr → ℕ → Seen → Seen
undialed within to start a = record {
  dialer = dialed {L = Unit {0}} {E = Unit {0}} to within (Err tt) a.dialer;
  resolver = a.resolver;
  clock = started start a.clock;
}

-- the link is up
abbrev pub upped : ℕ → SocketAddr → ℕ → ℕ → Seen → Seen
upped within to start look a = record {
  dialer = dialed {L = Unit {0}} {E = Unit {0}} to within (Ok tt) a.dialer;
  resolver = a.resolver;
  clock = timed start look a.clock;
}

-- the link was handed back
abbrev pub returned : ℕ → SocketAddr → ℕ → ℕ → ReadTold → WriteTold → Seen → Seen
returned within to start look r w a = record {
  dialer = hung_up r w (dialed {L = Unit {0}} {E = Unit {0}} to within (Ok tt) a.dialer);
  resolver = a.resolver;
  clock = timed start look a.clock;
}

-- the world slept so long
abbrev pub rested : ℕ → Seen → Seen
rested ms a = record a { clock = slept ms a.clock }

-- why a handshake with a server gave no link: it is a websocket's, or the handshake broke
abbrev pub Unshaken : {P : Type 0} → (P → P → List (List ℕ) → List (List ℕ) → Type 0)
    → (List ℕ → Result AuthValue (List ℕ) → Type 0) → Bool → Option (List ℕ) → Bool → ℕ → Parts → ℕ → Failure
    → ReadTold → WriteTold → ClockTold → Type 0
Unshaken Takes Offers by_option name no_echo timeout addr start e r w c =
    ((e ≡ no_websocket) × (is_websocket addr ≡ true))
    ⊎ Broke Takes Offers by_option name no_echo (is_tls addr) start timeout e r w c

-- a failure is counted with its text, unless memory is wanting
abbrev pub Notes : {P : Type 0} → (Parts → Outcome → P → P → Type 0) → Parts → Failure → P → Failure → P → Type 0
Notes Counts addr f p e q =
    ((e ≡ wanting) × (q ≡ p)) ⊎ ((e ≡ f) × Counts addr (outcome.Failed (failure_text f)) p q)

-- ---- tries: `Takes`, `Begins`, `Hands` and `Counts` say what becomes of a pool; `Offers` what the client
-- authenticates by; it wants
-- TLS by an option, or doesn't; it has this name; it wants no echo; a handshake may take so long; `read_of` and
-- `write_of` say what its halves told
module _ {P R T : Type 0} (Takes : P → P → List (List ℕ) → List (List ℕ) → Type 0)
    (Counts : Parts → Outcome → P → P → Type 0) (Hands : P → P → Next → Type 0)
    (Begins : ServerInfo → P → P → Choice → Type 0)
    (told : P → RoundTold)
    (Offers : List ℕ → Result AuthValue (List ℕ) → Type 0) (by_option : Bool) (name : Option (List ℕ)) (no_echo : Bool)
    (timeout : ℕ) (read_of : R → ReadTold) (write_of : T → WriteTold)
  where
    -- one address was dialed, once the clock was started, and gave no link: the dial failed, or its link was handed
    -- back
    abbrev pub Unreached : Parts → SocketAddr → Seen → Failure → Seen → Type 0
    Unreached addr to a e b = ((start : ℕ) × (e ≡ io cause.Fault) × (b ≡ undialed timeout to start a))
        ⊎ ((start : ℕ) × (look : ℕ) × (r : ReadTold) × (w : WriteTold) × (b ≡ returned timeout to start look r w a)
        × Unshaken Takes Offers by_option name no_echo timeout addr start e r w (timed start look a.clock))

    -- one address was dialed, and gave a link in time, or none
    abbrev pub Reaches : Parts → SocketAddr → Seen → P → Result (Linked R T) Failure → Seen → P → Type 0
    Reaches addr to a p (Ok l) b q = (start : ℕ) × (look : ℕ) × (b ≡ upped timeout to start look a)
        × IsUp Offers by_option (is_tls addr) name no_echo l.info l.rest.items (read_of l.read) (write_of l.write)
        × Takes p q l.info.connect_urls l.skipped.items × (look < start + timeout)
    Reaches addr to a p (Err e) b q = Unreached addr to a e b × TookIn Takes p q

    -- the same, and the pool was told how it went
    abbrev pub Tries : Parts → SocketAddr → Seen → P → Result (Linked R T) Failure → Seen → P → Type 0
    Tries addr to a p (Ok l) b q = (m : P) × Reaches addr to a p (Ok l) b m × Counts addr outcome.Connected m q
    Tries addr to a p (Err e) b q =
        (f : Failure) × (m : P) × Reaches addr to a p (Err f) b m × Notes Counts addr f m e q

    -- a try ended the round: it gave a link, or an error that ends a round
    abbrev pub Ends : Result (Linked R T) Failure → Type 0
    Ends (Ok l) = Unit {0}
    Ends (Err e) = ends_round e.0 ≡ true

    -- these addresses are tried in order, until one gives a link or ends the round; where none does, the last error
    -- is the answer
    abbrev pub TriesEach : Parts → List SocketAddr → Failure → Seen → P → Result (Linked R T) Failure → Seen → P
        → Type 0
    TriesEach addr [] last a p result b q = (result ≡ Err last) × (b ≡ a) × (q ≡ p)
    TriesEach addr (to ∷ more) last a p result b q = (Tries addr to a p result b q × Ends result)
        ⊎ ((e : Failure) × (c : Seen) × (m : P) × Tries addr to a p (Err e) c m × (ends_round e.0 ≡ false)
        × TriesEach addr more e c m result b q)

    -- a server was asked for, with this answer of the resolver, and its addresses are tried
    abbrev pub Asks : Parts → Result (List SocketAddr) ResolveError → Seen → P → Result (Linked R T) Failure → Seen
        → P → Type 0
    Asks addr (Ok addresses) a p result b q = TriesEach addr addresses no_address
        (record a { resolver = gave (host_name addr) (port_of addr) addresses a.resolver }) p result b q
    Asks addr (Err refusal.Failed) a p result b q = (result ≡ Err unresolved)
        × (b ≡ record a { resolver = failed (host_name addr) (port_of addr) a.resolver }) × (q ≡ p)
    Asks addr (Err refusal.NoMemory) a p result b q = (result ≡ Err wanting)
        × (b ≡ record a { resolver = wanted a.resolver }) × (q ≡ p)

    -- a server that is a websocket's, or isn't
    abbrev pub VisitsWhere : Bool → Parts → Seen → P → Result (Linked R T) Failure → Seen → P → Type 0
    VisitsWhere true addr a p result b q = (result ≡ Err no_websocket) × (b ≡ a) × (q ≡ p)
    VisitsWhere false addr a p result b q =
        (answer : Result (List SocketAddr) ResolveError) × Asks addr answer a p result b q

    -- one server is tried, once its delay was slept
    abbrev pub Visits : Parts → ℕ → Seen → P → Result (Linked R T) Failure → Seen → P → Type 0
    Visits addr delay a p result b q = VisitsWhere (is_websocket addr) addr (rested delay a) p result b q

    -- the servers of a round are tried in order, each once it was handed out, until one gives a link or ends the
    -- round; where none does, the last error is the answer
    abbrev pub GoesThrough : List Planned → Failure → Seen → P → Result (Linked R T) Failure → Seen → P → Type 0
    GoesThrough [] last a p result b q = Hands p q next.Over × (result ≡ Err last) × (b ≡ a)
    GoesThrough (planned ∷ more) last a p result b q =
        (Hands p q next.MaxReconnects × (result ≡ Err too_many) × (b ≡ a))
        ⊎ ((attempt : Attempt) × (n : P) × Hands p n (next.Try attempt) × (attempt.addr ≡ planned.addr)
        × ((Visits planned.addr attempt.delay a n result b q × Ends result)
        ⊎ ((e : Failure) × (c : Seen) × (m : P) × Visits planned.addr attempt.delay a n (Err e) c m
        × (ends_round e.0 ≡ false)
        × GoesThrough more e c m result b q)))

    -- a round begins and is gone through; without memory for it, nothing is done
    abbrev pub Connects : ServerInfo → Seen → P → Result (Linked R T) Failure → Seen → P → Type 0
    Connects last a p result b q = ((result ≡ Err wanting) × (b ≡ a) × (q ≡ p))
        ⊎ ((chosen : Choice) × (n : P) × Begins last p n chosen
        × GoesThrough (left_of (told n)) all_failed a n result b q)
