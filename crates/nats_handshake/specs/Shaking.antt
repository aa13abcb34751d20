-- A handshake: what it keeps, and what each call makes of that.
use Rattle.std.specs.Prelude.{◌≡◌, ◌⊎◌, ℕ, ◌+◌, ◌-◌, nat_le, Bool, true, false, ◌||◌, if◌then◌else◌, List, [], ◌++◌, take, drop, Option, Some, None, Result, Ok, Err}
use Rattle.std.specs.Global.{Vec}
use Rattle.url.specs.Parts.{Parts}
use Rattle.nats_addr.specs.Addr.{is_tls, is_websocket}
use Rattle.nats_names.specs.declared.cause.Cause.{Cause}
use Rattle.nats_names.specs.declared.cause.Cause.TheVariants as cause
use Rattle.nats_info.specs.declared.info.ServerInfo.{ServerInfo}
use Rattle.nats_connect.specs.Connect.{connect_text}
use Rattle.nats_pool.specs.Auths.{AuthValue}
use Rattle.nats_message.specs.declared.op.ClientOp.TheVariants as client
use Rattle.nats_commands.specs.Commands.{command_text}
use Rattle.nats_lines.specs.Operations.{front}
use Rattle.nats_handshake.specs.declared.error.ConnectErrorKind.{ConnectErrorKind}
use Rattle.nats_handshake.specs.declared.error.ConnectErrorKind.TheVariants as kind
use Rattle.nats_handshake.specs.Errors.{Failure}
use Rattle.nats_handshake.specs.declared.stage.Stage.{Stage}
use Rattle.nats_handshake.specs.declared.stage.Stage.TheVariants as stage
use Rattle.nats_handshake.specs.declared.stage.Shake.{Shake}
use Rattle.nats_handshake.specs.declared.stage.Shake.TheVariants as shake
use Rattle.nats_handshake.specs.declared.course.Verdict.{Verdict}
use Rattle.nats_handshake.specs.declared.course.Verdict.TheVariants as verdict
use Rattle.nats_handshake.specs.declared.course.Course as code
use Rattle.nats_handshake.specs.declared.course.Greeting.{Greeting}
use Rattle.nats_handshake.specs.declared.course.Greeting.TheVariants as greeting
use Rattle.nats_handshake.specs.Course.{Course, course, behind_out, greeting_at}
use Rattle.nats_handshake.specs.Credentials.{RefusedAs}
use Rattle.nats_handshake.specs.Greeting.{connect_info_of}

-- how many operations may come behind the INFO
abbrev pub operations_most : ℕ
operations_most = 16

-- what contracts see of a handshake: how far it came, the bytes from the server that no operation took yet, the
-- bytes for the server that wait to be taken, when it began and how long it may take, whether the address wants
-- TLS, and the texts of the INFO that spell no address
pub record Talk : Type 0 where
  pub stage : Stage
  pub unread : List ℕ
  pub out : List ℕ
  pub start : ℕ
  pub timeout : ℕ
  pub is_tls : Bool
  pub skipped : List (List ℕ)

-- ---- the INFO

-- TLS is wanted by an option, by the scheme of the address, or by the INFO
abbrev pub wants_tls : Bool → Bool → ServerInfo → Bool
wants_tls by_option by_scheme info = by_option || by_scheme || info.tls_required

-- the text of a client that takes part: CONNECT and PING
unfoldable pub opening : Option (List ℕ) → Bool → AuthValue → List ℕ
opening name no_echo auth = connect_text (connect_info_of name no_echo auth) ++ command_text client.Ping

-- ---- what is fed

-- want of memory
abbrev pub wanting : Failure
wanting = (kind.NoMemory, None)

-- once these bytes came
abbrev pub with_bytes : Talk → List ℕ → Talk
with_bytes t bytes = record t { unread = t.unread ++ bytes }

-- a course that doesn't refuse has this answer
abbrev pub IsAnswer : Verdict → Shake → Type 0
IsAnswer verdict.Waits s = s ≡ shake.More
IsAnswer verdict.Succeeds s = s ≡ shake.Done
IsAnswer (verdict.Refuses r) s = ⊥

-- how far a handshake is after that answer
abbrev pub staged : ServerInfo → ℕ → Shake → Stage
staged info left shake.More = stage.Asks info left
staged info left shake.Done = stage.Linked info

-- a handshake that knows the INFO goes on by a course
abbrev pub Goes : ServerInfo → Course → Talk → Shake → Talk → Type 0
Goes info c t s new = IsAnswer c.verdict s
    × (new ≡ record t { stage = staged info c.left s; unread = c.rest; out = t.out ++ c.out })

-- a course refuses so
abbrev pub Stops : Verdict → Failure → Type 0
Stops (verdict.Refuses r) e = e ≡ r
Stops verdict.Waits e = ⊥
Stops verdict.Succeeds e = ⊥

-- the code's answer by a verdict
abbrev pub Shakes : Verdict → Result Shake Failure → Type 0
Shakes v (Ok s) = IsAnswer v s
Shakes v (Err e) = Stops v e

-- a course refuses so, or memory is wanting
abbrev pub StopsOrWants : Verdict → Failure → Type 0
StopsOrWants v e = Stops v e ⊎ (e ≡ wanting)

-- what comes of a course for one that knows the INFO; a refusal changes nothing
abbrev pub Follows : ServerInfo → Course → Talk → Result Shake Failure → Talk → Type 0
Follows info c t (Ok s) new = Goes info c t s new
Follows info c t (Err e) new = StopsOrWants c.verdict e × (new ≡ t)

-- what comes of a course for one that knows the INFO just now, of which these texts were skipped; a refusal changes
-- nothing
abbrev pub Entered : ServerInfo → Course → List (List ℕ) → Talk → Result Shake Failure → Talk → Type 0
Entered info c skipped t (Ok s) new = Goes info c (record t { skipped = skipped }) s new
Entered info c skipped t (Err e) new = StopsOrWants c.verdict e × (new ≡ t)

-- the code's course is followed, but for how far the handshake came
abbrev pub Took : code.Course → Talk → Result Shake Failure → Talk → Type 0
Took c old (Ok s) new = IsAnswer c.verdict s
    × (new ≡ record old { unread = drop c.taken old.unread; out = old.out ++ c.out.items })
Took c old (Err e) new = StopsOrWants c.verdict e × (new ≡ old)

-- one that knows the INFO is further by that answer
abbrev pub advanced : Stage → ℕ → Shake → Stage
advanced stage.Greets left s = stage.Greets
advanced (stage.Asks info before) left s = staged info left s
advanced (stage.Linked info) left s = stage.Linked info
advanced (stage.Refused kind) left s = stage.Refused kind

-- the answer of a handshake that knows the INFO, with so many operations to come
abbrev pub WentOn : ℕ → Talk → Result Shake Failure → Talk → Type 0
WentOn left old (Ok s) new = let c = course left old.unread in IsAnswer c.verdict s
    × (new ≡ record old { stage = advanced old.stage c.left s; unread = c.rest; out = old.out ++ c.out })
WentOn left old (Err e) new = StopsOrWants ((course left old.unread).verdict) e × (new ≡ old)

-- the kind by which it was refused
abbrev pub refused_of : Stage → Option ConnectErrorKind
refused_of (stage.Refused kind) = Some kind
refused_of stage.Greets = None
refused_of (stage.Asks info left) = None
refused_of (stage.Linked info) = None

abbrev pub is_wanting : ConnectErrorKind → Bool
is_wanting kind.NoMemory = true
is_wanting kind.ServerParse = false
is_wanting kind.Dns = false
is_wanting kind.Authentication = false
is_wanting kind.AuthorizationViolation = false
is_wanting kind.TimedOut = false
is_wanting kind.Tls = false
is_wanting kind.Io = false
is_wanting kind.MaxReconnects = false

-- after a refusal: want of memory leaves the handshake as it was, any other kind is kept
abbrev pub left_by : ConnectErrorKind → Talk → Talk → Talk
left_by kind old t = if is_wanting kind then old else record t { stage = stage.Refused kind }

-- the opening for a nonce, or a refusal of what the client offers
abbrev pub Opens : (List ℕ → Result AuthValue (List ℕ) → Type 0) → Option (List ℕ) → Bool → List ℕ
    → Result (Vec ℕ) Failure → Type 0
Opens Offers name no_echo nonce (Ok out) =
    (auth : AuthValue) × Offers nonce (Ok auth) × (out.items ≡ opening name no_echo auth)
Opens Offers name no_echo nonce (Err e) = RefusedAs e.0 e.1 (Offers nonce)

-- `Discovers urls skipped` says that the pool takes the addresses of these texts in but for the skipped ones, `Stays`
-- that it is as it was, `Offers nonce r` that r is what the client authenticates by for a nonce; TLS is wanted by
-- option, or isn't; the client has this name, or wants no echo
module _ (Discovers : List (List ℕ) → List (List ℕ) → Type 0) (Stays : Type 0)
    (Offers : List ℕ → Result AuthValue (List ℕ) → Type 0) (by_option : Bool) (name : Option (List ℕ)) (no_echo : Bool)
  where
    -- an INFO is taken but for these texts, and the client offers this
    abbrev pub Takes : Bool → ServerInfo → List (List ℕ) → AuthValue → Type 0
    Takes by_scheme info skipped auth = (wants_tls by_option by_scheme info ≡ false)
        × Discovers info.connect_urls skipped × Offers info.nonce (Ok auth)

    -- the addresses of an INFO are in the pool
    abbrev pub HasTaken : ServerInfo → Type 0
    HasTaken info = (skipped : List (List ℕ)) × Discovers info.connect_urls skipped

    -- an INFO is not taken, with an error of this kind and source
    abbrev pub Declines : Bool → ServerInfo → ConnectErrorKind → Option Cause → Type 0
    Declines by_scheme info kind.Tls source = (wants_tls by_option by_scheme info ≡ true) × (source ≡ None) × Stays
    Declines by_scheme info kind.Authentication source = (wants_tls by_option by_scheme info ≡ false)
        × HasTaken info × ((e : List ℕ) × (source ≡ Some (cause.Auth e)) × Offers info.nonce (Err e))
    Declines by_scheme info kind.NoMemory source = (source ≡ None) × (Stays ⊎ HasTaken info)
    Declines by_scheme info other source = ⊥

    -- the opening for an INFO with the texts that were skipped, or why there is none
    abbrev pub Welcomes : Bool → ServerInfo → Result (Vec ℕ × Vec (List ℕ)) Failure → Type 0
    Welcomes by_scheme info (Ok both) = (auth : AuthValue) × Takes by_scheme info both.1.items auth
        × (both.0.items ≡ opening name no_echo auth)
    Welcomes by_scheme info (Err e) = Declines by_scheme info e.0 e.1

    -- what the operations behind an INFO of n bytes come to, for a client that offers this
    abbrev pub first_course : ℕ → AuthValue → List ℕ → Course
    first_course n auth text = behind_out (opening name no_echo auth) (course operations_most (drop n text))

    -- an answer to the first thing that the server says
    abbrev pub Greeted : Greeting → Talk → Shake → Talk → Type 0
    Greeted greeting.Waits t s new = Stays × (s ≡ shake.More) × (new ≡ t)
    Greeted (greeting.Refuses r) t s new = ⊥
    Greeted (greeting.Greets info n) t s new = (auth : AuthValue) × (skipped : List (List ℕ))
        × Takes t.is_tls info skipped auth
        × Goes info (first_course n auth t.unread) (record t { skipped = skipped }) s new

    -- a refusal of it
    abbrev pub Repelled : Greeting → Talk → Failure → Type 0
    Repelled greeting.Waits t e = Stays × (e ≡ wanting)
    Repelled (greeting.Refuses r) t e = Stays × ((e ≡ r) ⊎ (e ≡ wanting))
    Repelled (greeting.Greets info n) t e = Declines t.is_tls info e.0 e.1
        ⊎ ((auth : AuthValue) × (skipped : List (List ℕ)) × Takes t.is_tls info skipped auth
        × Stops ((first_course n auth t.unread).verdict) e)

    -- what comes of the first thing that the server says
    abbrev pub Hears : Greeting → Talk → Result Shake Failure → Talk → Type 0
    Hears said t (Ok s) new = Greeted said t s new
    Hears said t (Err e) new = Repelled said t e × (new ≡ t)

    abbrev pub Stands : Talk → Result Shake Failure → Talk → Type 0
    Stands t (Ok s) new = (s ≡ shake.Done) × (new ≡ t)
    Stands t (Err e) new = (e ≡ wanting) × (new ≡ t)

    -- what comes of the bytes that are there, by how far the handshake came: what a refusal changes, and
    -- what is asked of one that was refused, is not said here
    abbrev pub Heeds : Stage → Talk → Result Shake Failure → Talk → Type 0
    Heeds stage.Greets t result new = Hears (greeting_at (front t.unread)) t result new
    Heeds (stage.Asks info left) t result new = Stays × Follows info (course left t.unread) t result new
    Heeds (stage.Linked info) t result new = Stays × Stands t result new
    Heeds (stage.Refused kind) t result new = new ≡ t

    -- the same with what a refusal changes, where the first `before` bytes were there before
    abbrev pub Settles : Stage → ℕ → Talk → Result Shake Failure → Talk → Type 0
    Settles at before t (Ok s) new = Heeds at t (Ok s) new
    Settles at before t (Err e) new =
        Heeds at t (Err e) t × (new ≡ left_by e.0 (record t { unread = take before t.unread }) t)

    -- what comes of more bytes
    abbrev pub FedOpen : Stage → Talk → List ℕ → Result Shake Failure → Talk → Type 0
    FedOpen at old bytes (Ok s) new = Heeds at (with_bytes old bytes) (Ok s) new
    FedOpen at old bytes (Err e) new = Heeds at (with_bytes old bytes) (Err e) (with_bytes old bytes)
        × (new ≡ left_by e.0 old (with_bytes old bytes))

    abbrev pub FedAt : Stage → Talk → List ℕ → Result Shake Failure → Talk → Type 0
    FedAt stage.Greets old bytes result new = FedOpen stage.Greets old bytes result new
    FedAt (stage.Asks info left) old bytes result new = FedOpen (stage.Asks info left) old bytes result new
    FedAt (stage.Linked info) old bytes result new = FedOpen (stage.Linked info) old bytes result new
    FedAt (stage.Refused kind) old bytes result new = Stays × (result ≡ Err (kind, None)) × (new ≡ old)

    -- what a handshake answers to these bytes, and what it is then
    abbrev pub Feeds : Talk → List ℕ → Result Shake Failure → Talk → Type 0
    Feeds old bytes result new = FedAt old.stage old bytes result new

-- ---- the other calls

-- a handshake that is still open refuses with this kind from now on
abbrev pub closed : Stage → ConnectErrorKind → Stage
closed stage.Greets kind = stage.Refused kind
closed (stage.Asks info left) kind = stage.Refused kind
closed (stage.Linked info) kind = stage.Linked info
closed (stage.Refused before) kind = stage.Refused before

-- what the link's end is, before the INFO and later
abbrev pub end_cause : Stage → Cause
end_cause stage.Greets = cause.NoInfo
end_cause (stage.Asks info left) = cause.BrokenPipe
end_cause (stage.Linked info) = cause.BrokenPipe
end_cause (stage.Refused kind) = cause.BrokenPipe

abbrev pub is_late : Talk → ℕ → Bool
is_late t now = nat_le (t.start + t.timeout) now

-- how many milliseconds are left of its time
abbrev pub left_at : Talk → ℕ → ℕ
left_at t now = t.timeout - (now - t.start)

-- a look at the clock, which is late or isn't, of one that is still open
abbrev pub ExpiresOpen : Bool → Talk → Result (Unit {0}) Failure → Talk → Type 0
ExpiresOpen true old result new =
    (result ≡ Err (kind.TimedOut, None)) × (new ≡ record old { stage = stage.Refused kind.TimedOut })
ExpiresOpen false old result new = (result ≡ Ok tt) × (new ≡ old)

-- the same of any
abbrev pub ExpiresAt : Stage → ℕ → Talk → Result (Unit {0}) Failure → Talk → Type 0
ExpiresAt (stage.Refused kind) now old result new = (result ≡ Err (kind, None)) × (new ≡ old)
ExpiresAt (stage.Linked info) now old result new = (result ≡ Ok tt) × (new ≡ old)
ExpiresAt stage.Greets now old result new = ExpiresOpen (is_late old now) old result new
ExpiresAt (stage.Asks info left) now old result new = ExpiresOpen (is_late old now) old result new

abbrev pub Expires : ℕ → Talk → Result (Unit {0}) Failure → Talk → Type 0
Expires now old result new = ExpiresAt old.stage now old result new

-- the INFO and the rest, once the handshake succeeded
abbrev pub finished : Stage → List ℕ → Option (ServerInfo × List ℕ)
finished stage.Greets rest = None
finished (stage.Asks info left) rest = None
finished (stage.Linked info) rest = Some (info, rest)
finished (stage.Refused kind) rest = None

-- the same as the code has it
abbrev pub by_content : ServerInfo × Vec ℕ → ServerInfo × List ℕ
by_content pair = (pair.0, pair.1.items)

-- ---- how a handshake begins

abbrev pub new_talk : Parts → ℕ → ℕ → Talk
new_talk addr timeout start = record {
  stage = stage.Greets;
  unread = [];
  out = [];
  start = start;
  timeout = timeout;
  is_tls = is_tls addr;
  skipped = [];
}

-- websockets are refused
abbrev pub IsNew : Parts → ℕ → ℕ → Result Talk Failure → Type 0
IsNew addr timeout start result =
    result ≡ (if is_websocket addr then Err (kind.ServerParse, None) else Ok (new_talk addr timeout start))
