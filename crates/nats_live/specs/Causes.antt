-- Why a command on a live link was refused, over what the world told before and after it.
use Rattle.std.specs.Prelude.{◌≡◌, ◌⊎◌, ◌<◌, ◌≤◌, ℕ, true, false, List, [], ◌∷◌, length, Some, None, Result, Ok, Err, IfSome, codes, if◌then◌else◌}
use Rattle.nats_names.specs.declared.addr_error.AddrError.{AddrError}
use Rattle.nats_names.specs.declared.cause.Cause.TheVariants as cause
use Rattle.nats_names.specs.Causes.{source_text}
use Rattle.nats_names.specs.Names.{is_publishable, is_valid}
use Rattle.url.specs.Parts.{Parts}
use Rattle.nats_info.specs.declared.info.ServerInfo.{ServerInfo}
use Rattle.nats_addr.specs.Addr.{addr_of, is_tls, is_websocket}
use Rattle.nats_pool.specs.Auths.{AuthValue}
use Rattle.nats_pool.specs.declared.pool_parts.Planned.{Planned}
use Rattle.nats_pool.specs.Discovery.{skipped_of}
use Rattle.nats_pool.specs.Handing.{RoundTold}
use Rattle.nats_outside.specs.Counts.{Rose}
use Rattle.nats_outside.specs.Told.{Seen, ReadTold, WriteTold}
use Rattle.nats_outside.specs.declared.dialer.DialWord.TheVariants as word
use Rattle.nats_handshake.specs.declared.error.ConnectErrorKind.TheVariants as connecting
use Rattle.nats_handshake.specs.Errors.{Failure}
use Rattle.nats_handshake.specs.Shaking.{is_wanting}
use Rattle.nats_handshake.specs.Opened.{Opened}
use Rattle.nats_dial.specs.Tries.{IsUp, failure_text}
use Rattle.nats_dial.specs.Causes.{OneOut, RoundCause}
use Rattle.nats_system.specs.declared.errors.PublishErrorKind.TheVariants as publishing
use Rattle.nats_system.specs.declared.errors.SubscribeErrorKind.TheVariants as subscribing
use Rattle.nats_system.specs.Errors.{publish_kind_text, subscribe_kind_text}
use Rattle.nats_live.specs.declared.error.LiveError.{LiveError}
use Rattle.nats_live.specs.declared.error.LiveError.TheVariants as refused
use Rattle.nats_live.specs.Ended.{EndedLink, LastLink, LastSince, IsOpenedBy, behind_handshake, after, messages, limit_of, ends_in_fault, nothing}

-- what an error prints
abbrev pub live_error_text : LiveError → List ℕ
live_error_text (refused.Connect e) = failure_text e
live_error_text (refused.Publish e) = source_text e.1 (publish_kind_text e.0)
live_error_text (refused.Subscribe e) = source_text e.1 (subscribe_kind_text e.0)
live_error_text refused.LinkEnded = codes "link ended"
live_error_text refused.NoMemory = codes "out of memory"

-- ---- connecting

-- a refusal to connect: want of memory is one of its own
abbrev pub connect_refused : Failure → LiveError
connect_refused e = if is_wanting e.0 then refused.NoMemory else refused.Connect e

-- a client of default options offers nothing, whatever the nonce
abbrev pub OffersNothing : List ℕ → Result AuthValue (List ℕ) → Type 0
OffersNothing nonce result = result ≡ Ok nothing

-- milliseconds that a handshake may take by default
abbrev pub default_timeout : ℕ
default_timeout = 5000

-- the round is of this server alone, without a limit of attempts; the same of the server of this address
abbrev pub IsRoundWith : Parts → RoundTold → Type 0
IsRoundWith server t = (planned : Planned) × (planned.addr ≡ server) × (t.round ≡ planned ∷ []) × (t.limit ≡ None)

abbrev pub IsRoundOf : List ℕ → RoundTold → Type 0
IsRoundOf addr t = (server : Parts) × (addr_of addr ≡ Ok server) × IsRoundWith server t

-- what comes of the addresses of servers that an INFO tells of: those that spell none are skipped
abbrev pub TakesTexts : Unit {0} → Unit {0} → List (List ℕ) → List (List ℕ) → Type 0
TakesTexts before after urls skipped = skipped ≡ skipped_of urls

-- a round of connecting on default options gave no link, whose servers are those of that round
abbrev pub RoundFailed : RoundTold → RoundTold → Seen → Failure → Seen → Type 0
RoundFailed before after a e b =
    RoundCause TakesTexts OffersNothing false None false default_timeout before after a e b

-- the address doesn't parse, or a round with its server alone gave no link, for another cause than memory
abbrev pub NotConnected : List ℕ → Seen → Failure → Seen → Type 0
NotConnected addr a e b = (is_wanting e.0 ≡ false)
    × (((x : AddrError) × (e ≡ (connecting.ServerParse, Some (cause.Addr x))) × (addr_of addr ≡ Err x))
    ⊎ ((before : RoundTold) × (after : RoundTold) × IsRoundOf addr after × RoundFailed before after a e b))

-- why no link came of this server
abbrev pub WhyNotLinked : Parts → Seen → LiveError → Seen → Type 0
WhyNotLinked server a (refused.Connect e) b = (is_wanting e.0 ≡ false)
    × ((before : RoundTold) × (after : RoundTold) × IsRoundWith server after × RoundFailed before after a e b)
WhyNotLinked server a (refused.Publish e) b = ⊥
WhyNotLinked server a (refused.Subscribe e) b = ⊥
WhyNotLinked server a refused.LinkEnded b = ⊥
WhyNotLinked server a refused.NoMemory b = Unit {0}

-- why an address spells no server
abbrev pub WhyNotParsed : List ℕ → LiveError → Type 0
WhyNotParsed addr (refused.Connect e) =
    (x : AddrError) × (e ≡ (connecting.ServerParse, Some (cause.Addr x))) × (addr_of addr ≡ Err x)
WhyNotParsed addr (refused.Publish e) = ⊥
WhyNotParsed addr (refused.Subscribe e) = ⊥
WhyNotParsed addr refused.LinkEnded = ⊥
WhyNotParsed addr refused.NoMemory = Unit {0}

-- why no link came about
abbrev pub WhyNotDialed : List ℕ → Seen → LiveError → Seen → Type 0
WhyNotDialed addr a (refused.Connect e) b = NotConnected addr a e b
WhyNotDialed addr a (refused.Publish e) b = ⊥
WhyNotDialed addr a (refused.Subscribe e) b = ⊥
WhyNotDialed addr a refused.LinkEnded b = ⊥
WhyNotDialed addr a refused.NoMemory b = Unit {0}

-- ---- a link that came about

-- a link to this server, which wants no TLS and is no websocket's, came up by a dial since then, and is not handed back
pub record LinkedTo (server : Parts) (info : ServerInfo) (rest : List ℕ) (r : ReadTold) (w : WriteTold) (a b : Seen)
    : Type 0 where
  pub no_tls : is_tls server ≡ false
  pub no_socket : is_websocket server ≡ false
  pub up : IsUp OffersNothing false false None false info rest r w
  pub dialed : Rose a.dialer.dials b.dialer.dials
  pub out : OneOut a b

-- the same of the server of an address
abbrev pub DialedTo : List ℕ → ServerInfo → List ℕ → ReadTold → WriteTold → Seen → Seen → Type 0
DialedTo addr info rest r w a b = (server : Parts) × (addr_of addr ≡ Ok server) × LinkedTo server info rest r w a b

-- what a link of this call shows: it was dialed for the server of the address, which wants no TLS and is no
-- websocket's; it was shut and handed back; and where the world tells its ended links, it is the last of them, and was
-- none of those of before
pub record Shows (addr : List ℕ) (Is : EndedLink → Type 0) (a b : Seen) : Type 0 where
  pub server : Parts
  pub spelled : addr_of addr ≡ Ok server
  pub no_tls : is_tls server ≡ false
  pub no_socket : is_websocket server ≡ false
  pub dialed : Rose a.dialer.dials b.dialer.dials
  pub was_shut : b.dialer.was_shut ≡ true
  pub ended : IfSome b.dialer.ended (LastSince a.dialer.ended Is)

-- ---- the link's end

-- a dial or a link failed, and that is the dialer's last word
abbrev pub LinkBroke : Seen → Seen → Type 0
LinkBroke a b = (Rose a.dialer.faults b.dialer.faults ⊎ Rose a.dialer.ends b.dialer.ends)
    × (b.dialer.word ≡ word.Failed)

-- the same, or the link's end is the last word
abbrev pub LinkBrokeOrEnded : Seen → Seen → Type 0
LinkBrokeOrEnded a b = (Rose a.dialer.faults b.dialer.faults ⊎ Rose a.dialer.ends b.dialer.ends)
    × ((b.dialer.word ≡ word.Failed) ⊎ (b.dialer.word ≡ word.Ended))

-- the last ended link is one of whose bytes that is so
abbrev pub LastOpened : (Opened → Type 0) → Seen → Type 0
LastOpened Is b = IfSome b.dialer.ended
    (LastLink (λ (link : EndedLink). (o : Opened) × IsOpenedBy link o × Is o))

-- what came with the handshake's pieces is no operation; of the later pieces too
abbrev pub FaultInRest : Seen → Type 0
FaultInRest b = LastOpened (λ o. ends_in_fault o.rest ≡ true) b

abbrev pub FaultLater : Seen → Type 0
FaultLater b = LastOpened (λ o. ends_in_fault (behind_handshake o) ≡ true) b

-- fewer messages came
abbrev pub FewerCame : ℕ → Seen → Type 0
FewerCame n b = LastOpened (λ o. length (messages 1 (after o)) < n) b

-- the payload is larger than the server takes by what it said last
abbrev pub TooLarge : ℕ → ℕ → List ℕ → Seen → Type 0
TooLarge limit size payload b =
    (size ≡ length payload) × (limit < size) × LastOpened (λ o. limit_of o ≡ limit) b

-- why a message was not published
abbrev pub WhyNotPublished : List ℕ → List ℕ → List ℕ → Seen → LiveError → Seen → Type 0
WhyNotPublished addr subject payload a (refused.Connect e) b = NotConnected addr a e b
WhyNotPublished addr subject payload a (refused.Publish (publishing.InvalidSubject, source)) b =
    (source ≡ Some cause.Format) × (is_publishable subject ≡ false)
WhyNotPublished addr subject payload a
    (refused.Publish (publishing.MaxPayloadExceeded, Some (cause.Payload limit size))) b =
    TooLarge limit size payload b
WhyNotPublished addr subject payload a (refused.Publish e) b = ⊥
WhyNotPublished addr subject payload a (refused.Subscribe e) b = ⊥
WhyNotPublished addr subject payload a refused.LinkEnded b = LinkBroke a b ⊎ FaultInRest b
WhyNotPublished addr subject payload a refused.NoMemory b = Unit {0}

-- why n messages were not received
abbrev pub WhyNotReceived : List ℕ → List ℕ → ℕ → Seen → LiveError → Seen → Type 0
WhyNotReceived addr subject n a (refused.Connect e) b = NotConnected addr a e b
WhyNotReceived addr subject n a (refused.Subscribe (subscribing.InvalidSubject, source)) b =
    (source ≡ Some cause.Format) × (is_valid subject ≡ false)
WhyNotReceived addr subject n a (refused.Subscribe e) b = ⊥
WhyNotReceived addr subject n a (refused.Publish e) b = ⊥
WhyNotReceived addr subject n a refused.LinkEnded b = (LinkBrokeOrEnded a b ⊎ FaultLater b) × FewerCame n b
WhyNotReceived addr subject n a refused.NoMemory b = Unit {0}
