-- A link in its handshake: what its halves told, and why the handshake failed.
use Rattle.std.specs.Prelude.{◌≡◌, ◌⊎◌, ℕ, zero, suc, ◌+◌, ◌≤◌, ◌<◌, Bool, false, List, [], length, Option, Some, None, Result, Ok, Err, IfSome}
use Rattle.std.specs.List.{concat}
use Rattle.std.specs.Io.KnownBytes.{append_known}
use Rattle.nats_names.specs.declared.cause.Cause.TheVariants as cause
use Rattle.nats_names.specs.declared.failed.Failed.{Failed}
use Rattle.nats_info.specs.declared.info.ServerInfo.{ServerInfo}
use Rattle.nats_pool.specs.Auths.{AuthValue}
use Rattle.nats_outside.specs.Told.{ReadTold, WriteTold, ClockTold, read_of, bounded}
use Rattle.nats_handshake.specs.declared.error.ConnectErrorKind.TheVariants as kind
use Rattle.nats_handshake.specs.declared.stage.Stage.{Stage}
use Rattle.nats_handshake.specs.declared.stage.Stage.TheVariants as stage
use Rattle.nats_handshake.specs.declared.stage.Shake.{Shake}
use Rattle.nats_handshake.specs.declared.stage.Shake.TheVariants as shake
use Rattle.nats_handshake.specs.Course.{io}
use Rattle.nats_handshake.specs.Errors.{Failure}
use Rattle.nats_handshake.specs.Shaking.{Talk, wanting, wants_tls, end_cause}
use Rattle.nats_handshake.specs.Heard.{IsOpen, Heard, RefusesText, end_behind}
use Rattle.nats_handshake.specs.Opened.{opened, opened_in}

-- a clock was looked at, some times
abbrev pub Looked : ClockTold → ClockTold → Type 0
Looked before after = after ≡ record before { last = after.last }

-- ---- writing

-- what the half tells where all of these bytes were written
abbrev pub wrote_all : List ℕ → WriteTold → WriteTold
wrote_all bytes w = record w { taken = append_known w.taken bytes }

-- all that a handshake has to say was written, or why not
abbrev pub Writes : Talk → Result (Unit {0}) Failure → Talk → WriteTold → WriteTold → Type 0
Writes old (Ok done) new before after = (new ≡ record old { out = [] }) × (after ≡ wrote_all old.out before)
Writes old (Err e) new before after = (e ≡ wanting) ⊎ ((e ≡ io cause.Fault) × (1 ≤ after.faults))

-- ---- reading

-- the time of a handshake isn't over, by the last look at the clock; or it is
abbrev pub InTime : ℕ → ℕ → ClockTold → Type 0
InTime start timeout c = c.last < start + timeout

abbrev pub IsOver : ℕ → ℕ → ClockTold → Type 0
IsOver start timeout c = start + timeout ≤ c.last

-- a read may wait no longer than the handshake may take
abbrev pub IsBounded : ℕ → ReadTold → Type 0
IsBounded timeout r = (ms : ℕ) × (ms ≤ timeout) × (r.wait ≡ Some ms)

-- a look at the clock: so many milliseconds are left of the time of an open handshake, or none is
abbrev pub Looks : Talk → Result ℕ Failure → Talk → ClockTold → Type 0
Looks old (Ok ms) new c = (new ≡ old) × (ms ≤ old.timeout) × (IsOpen old.stage → InTime old.start old.timeout c)
Looks old (Err e) new c = IsOpen old.stage → (e ≡ (kind.TimedOut, None)) × IsOver old.start old.timeout c

-- no bytes came for an open handshake: the time was over; or the read, which was bounded, failed in time or met the
-- link's end
abbrev pub NoBytes : Failure → Talk → ReadTold → ReadTold → ClockTold → Type 0
NoBytes e t before after c = ((e ≡ (kind.TimedOut, None)) × IsOver t.start t.timeout c)
    ⊎ (InTime t.start t.timeout c × IsBounded t.timeout after × (after.pieces ≡ before.pieces)
    × (((e ≡ io cause.Fault) × (1 ≤ after.faults)) ⊎ ((e ≡ io (end_cause t.stage)) × (1 ≤ after.ends))))

-- what became of a read: some bytes, the link's end, or a failure
abbrev pub Hears : Talk → Result ℕ Failed → Result ℕ Failure → Talk → Type 0
Hears old (Ok zero) result new = result ≡ Err (io (end_cause old.stage))
Hears old (Ok (suc n)) result new = (result ≡ Ok (suc n)) × (new ≡ old)
Hears old (Err e) result new = result ≡ Err (io cause.Fault)

-- a read that may wait for so long
abbrev pub read_within : ℕ → ℕ → List ℕ → Option (List ℕ) → ReadTold → ReadTold
read_within ms n buf left r = read_of {E = Unit {0}} (Ok n) buf left (bounded (Some ms) r)

-- a bounded read with a look at the clock before it and after it
abbrev pub ReadsInTime : List ℕ → Talk → Result ℕ Failure → Talk → ReadTold → ReadTold → ClockTold → Type 0
ReadsInTime buf old (Ok n) new before after c =
    (new ≡ old) × (n ≤ length buf) × (0 < n) × (IsOpen old.stage → InTime old.start old.timeout c)
    × ((ms : ℕ) × (ms ≤ old.timeout) × (after ≡ read_within ms n buf after.left before))
ReadsInTime buf old (Err e) new before after c = IsOpen old.stage → NoBytes e old before after c

-- ---- the handshake of a link

-- all pieces together are this text, where they are known
abbrev pub Gave : List ℕ → ReadTold → Type 0
Gave text r = IfSome r.pieces (λ (pieces : List (List ℕ)). concat pieces ≡ text)

-- the pieces open the link as this text does: no fewer of them hold the success of the handshake
abbrev pub Opens : List ℕ → ReadTold → Type 0
Opens text r = IfSome r.pieces (λ (pieces : List (List ℕ)). opened pieces ≡ opened_in text [])

-- what was taken is this text, where it is known
abbrev pub Took : List ℕ → WriteTold → Type 0
Took text w = IfSome w.taken (λ (bytes : List ℕ). bytes ≡ text)

-- TLS is wanted neither by the option nor by the scheme, nor by the INFO that a handshake took
abbrev pub IsPlain : Bool → Bool → Stage → Type 0
IsPlain by_option by_scheme stage.Greets = Unit {0}
IsPlain by_option by_scheme (stage.Asks info left) = wants_tls by_option by_scheme info ≡ false
IsPlain by_option by_scheme (stage.Linked info) = wants_tls by_option by_scheme info ≡ false
IsPlain by_option by_scheme (stage.Refused kind) = Unit {0}

-- the halves of a link gave this text and took that one, all that its handshake heard and wrote
pub record Line (Offers : List ℕ → Result AuthValue (List ℕ) → Type 0) (by_option : Bool) (name : Option (List ℕ))
    (no_echo by_scheme : Bool)
    (start timeout : ℕ) (text wrote : List ℕ) (t : Talk) (r : ReadTold) (w : WriteTold) : Type 0 where
  pub heard : Heard Offers name no_echo t.stage t.unread wrote text
  pub out : t.out ≡ []
  pub began : t.start ≡ start
  pub time : t.timeout ≡ timeout
  pub is_tls : t.is_tls ≡ by_scheme
  pub plain : IsPlain by_option by_scheme t.stage
  pub gave : Gave text r
  pub opens : Opens text r
  pub waits : IsOpen t.stage → opened_in text [] ≡ None
  pub took : Took wrote w
  pub no_ends : r.ends ≡ 0
  pub no_faults : r.faults ≡ 0
  pub no_write_faults : w.faults ≡ 0

-- the stage after an answer
abbrev pub IsAt : Shake → Stage → Type 0
IsAt shake.More at = IsOpen at
IsAt shake.Done at = (info : ServerInfo) × (at ≡ stage.Linked info)

-- `Takes p q urls skipped` says what becomes of a list of servers p at the addresses of an INFO; `Offers nonce r` that
-- r is what the client authenticates by for a nonce; it wants TLS by an option, or doesn't; it has this name; it
-- wants no echo; the address is of `tls`, or isn't; the handshake began then and may take so long
module _ {P : Type 0} (Takes : P → P → List (List ℕ) → List (List ℕ) → Type 0)
    (Offers : List ℕ → Result AuthValue (List ℕ) → Type 0) (by_option : Bool) (name : Option (List ℕ)) (no_echo : Bool)
    (by_scheme : Bool) (start timeout : ℕ)
  where
    -- the text that the link gave is refused with this error
    abbrev pub Refused : Failure → ReadTold → Type 0
    Refused e r = (text : List ℕ) × Gave text r
        × ((p : P) × (q : P) × RefusesText (Takes p q) (q ≡ p) Offers by_option name no_echo by_scheme text e)

    -- why a handshake failed in time: a half failed, the link ended, or what it gave is refused
    abbrev pub BrokeInTime : Failure → ReadTold → WriteTold → Type 0
    BrokeInTime e r w = ((e ≡ io cause.Fault) × (1 ≤ r.faults + w.faults))
        ⊎ (((text : List ℕ) × Gave text r × (e ≡ io (end_behind text)) × (1 ≤ r.ends)) ⊎ Refused e r)

    -- why a handshake failed: want of memory, its time was over, or else it was not, and no read might wait for longer
    abbrev pub Broke : Failure → ReadTold → WriteTold → ClockTold → Type 0
    Broke e r w c = (e ≡ wanting) ⊎ (((e ≡ (kind.TimedOut, None)) × IsOver start timeout c)
        ⊎ (InTime start timeout c × IsBounded timeout r × BrokeInTime e r w))

    -- what one read and its answer come to
    abbrev pub Exchanged : Result Shake Failure → Talk → ReadTold → WriteTold → ClockTold → Type 0
    Exchanged (Ok s) new r w c =
        IsAt s new.stage × ((text : List ℕ) × (wrote : List ℕ)
        × Line Offers by_option name no_echo by_scheme start timeout text wrote new r w
        × InTime start timeout c × IsBounded timeout r)
    Exchanged (Err e) new r w c = Broke e r w c

    -- what a handshake comes to at its end: reads wait again for as long as it takes
    abbrev pub Shaken : Result (Unit {0}) Failure → Talk → ReadTold → WriteTold → ClockTold → Type 0
    Shaken (Ok done) new r w c =
        IsAt shake.Done new.stage × ((text : List ℕ) × (wrote : List ℕ)
        × Line Offers by_option name no_echo by_scheme start timeout text wrote new r w
        × InTime start timeout c × (r.wait ≡ None))
    Shaken (Err e) new r w c = Broke e r w c
