-- What a handshake makes of the whole text that it was fed, however that was cut.
use Rattle.std.specs.Prelude.{◌≡◌, ◌⊎◌, ℕ, Bool, List, [], ◌++◌, drop, Option, Result, Ok}
use Rattle.nats_names.specs.declared.cause.Cause.{Cause}
use Rattle.nats_names.specs.declared.cause.Cause.TheVariants as cause
use Rattle.nats_info.specs.declared.info.ServerInfo.{ServerInfo}
use Rattle.nats_pool.specs.Auths.{AuthValue}
use Rattle.nats_lines.specs.Operations.{front, got, info_op}
use Rattle.nats_handshake.specs.declared.stage.Stage.{Stage}
use Rattle.nats_handshake.specs.declared.stage.Stage.TheVariants as stage
use Rattle.nats_handshake.specs.declared.course.Greeting.{Greeting}
use Rattle.nats_handshake.specs.declared.course.Greeting.TheVariants as greeting
use Rattle.nats_handshake.specs.declared.course.Verdict.TheVariants as verdict
use Rattle.nats_handshake.specs.Course.{course, behind_out, greeting_at}
use Rattle.nats_handshake.specs.Errors.{Failure}
use Rattle.nats_handshake.specs.Shaking.{Talk, Declines, StopsOrWants, wanting, opening, operations_most}

-- the text begins with this INFO, and where more comes the operations behind it come to what those still to come
-- do, behind these answers
pub record Knows (info : ServerInfo) (left : ℕ) (unread said text : List ℕ) : Type 0 where
  pub len : ℕ
  pub first : front text ≡ got (info_op info) len
  pub alike : (more : List ℕ) → course operations_most (drop len (text ++ more))
      ≡ behind_out said (course left (unread ++ more))

-- the text begins with this INFO, the operations behind it come to success with these answers, and this is left
pub record Succeeds (info : ServerInfo) (rest said text : List ℕ) : Type 0 where
  pub len : ℕ
  pub left : ℕ
  pub first : front text ≡ got (info_op info) len
  pub all : course operations_most (drop len text)
      ≡ record { verdict = verdict.Succeeds; left = left; rest = rest; out = said }

-- it may still come to anything
abbrev pub IsOpen : Stage → Type 0
IsOpen stage.Greets = Unit {0}
IsOpen (stage.Asks info left) = Unit {0}
IsOpen (stage.Linked info) = ⊥
IsOpen (stage.Refused kind) = ⊥

-- what the end of a link comes to by the text that it gave: no operation stood whole before it, or one did
abbrev pub end_by : Greeting → Cause
end_by greeting.Waits = cause.NoInfo
end_by (greeting.Greets info n) = cause.BrokenPipe
end_by (greeting.Refuses r) = cause.BrokenPipe

abbrev pub end_behind : List ℕ → Cause
end_behind text = end_by (greeting_at (front text))

module _ (Offers : List ℕ → Result AuthValue (List ℕ) → Type 0) (name : Option (List ℕ)) (no_echo : Bool) where
  -- what was written: CONNECT and PING for what the client offers, and its answers
  abbrev pub Wrote : ServerInfo → List ℕ → List ℕ → Type 0
  Wrote info said wrote = (auth : AuthValue) × Offers info.nonce (Ok auth) × (wrote ≡ opening name no_echo auth ++ said)

  -- how far a handshake is that heard this text, with what it left unread and all that it wrote: at first no
  -- operation stands whole there
  abbrev pub Heard : Stage → List ℕ → List ℕ → List ℕ → Type 0
  Heard stage.Greets unread wrote text =
      (unread ≡ text) × (wrote ≡ []) × (greeting_at (front text) ≡ greeting.Waits)
  Heard (stage.Asks info left) unread wrote text =
      (said : List ℕ) × Wrote info said wrote × Knows info left unread said text
  Heard (stage.Linked info) unread wrote text =
      (said : List ℕ) × Wrote info said wrote × Succeeds info unread said text
  Heard (stage.Refused kind) unread wrote text = Unit {0}

  -- what it heard once it took more, and wrote more
  abbrev pub HeardMore : Talk → Talk → List ℕ → List ℕ → Type 0
  HeardMore old new wrote text =
      (more : List ℕ) × (new.out ≡ old.out ++ more) × Heard new.stage new.unread (wrote ++ more) text

module _ (Discovers : List (List ℕ) → List (List ℕ) → Type 0) (Stays : Type 0)
    (Offers : List ℕ → Result AuthValue (List ℕ) → Type 0) (by_option : Bool) (name : Option (List ℕ)) (no_echo : Bool)
  where
    -- a text is refused with this error, by what its first operation is
    abbrev pub RefusesIn : Bool → Greeting → List ℕ → Failure → Type 0
    RefusesIn by_scheme greeting.Waits text e = e ≡ wanting
    RefusesIn by_scheme (greeting.Refuses r) text e = (e ≡ r) ⊎ (e ≡ wanting)
    RefusesIn by_scheme (greeting.Greets info n) text e =
        Declines Discovers Stays Offers by_option name no_echo by_scheme info e.0 e.1
        ⊎ StopsOrWants ((course operations_most (drop n text)).verdict) e

    abbrev pub RefusesText : Bool → List ℕ → Failure → Type 0
    RefusesText by_scheme text e = RefusesIn by_scheme (greeting_at (front text)) text e
