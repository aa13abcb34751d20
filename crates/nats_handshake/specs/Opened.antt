-- What the pieces of a link say of its handshake.
use Rattle.std.specs.Prelude.{ℕ, List, [], ◌∷◌, ◌++◌, drop, Option, Some, None}
use Rattle.std.specs.Option.{option_or}
use Rattle.nats_info.specs.declared.info.ServerInfo.{ServerInfo}
use Rattle.nats_lines.specs.Operations.{front}
use Rattle.nats_handshake.specs.declared.course.Greeting.{Greeting}
use Rattle.nats_handshake.specs.declared.course.Greeting.TheVariants as greeting
use Rattle.nats_handshake.specs.declared.course.Verdict.{Verdict}
use Rattle.nats_handshake.specs.declared.course.Verdict.TheVariants as verdict
use Rattle.nats_handshake.specs.Course.{Course, course, greeting_at}
use Rattle.nats_handshake.specs.Shaking.{operations_most}

-- a link whose handshake succeeded: the server's INFO, one PONG for each PING of the handshake, the bytes of
-- the handshake's pieces that came behind its last operation, and the pieces that came later
pub record Opened : Type 0 where
  pub info : ServerInfo
  pub said : List ℕ
  pub rest : List ℕ
  pub later : List (List ℕ)

-- by what the operations behind an INFO come to
abbrev pub opened_by : Verdict → ServerInfo → Course → List (List ℕ) → Option Opened
opened_by verdict.Succeeds info c later = Some (record { info = info; said = c.out; rest = c.rest; later = later })
opened_by verdict.Waits info c later = None
opened_by (verdict.Refuses r) info c later = None

-- by what the first operation is
abbrev pub opened_at : Greeting → List ℕ → List (List ℕ) → Option Opened
opened_at (greeting.Greets info n) text later =
    let c = course operations_most (drop n text) in opened_by c.verdict info c later
opened_at greeting.Waits text later = None
opened_at (greeting.Refuses r) text later = None

-- whether this text, which some pieces are, holds the handshake's success
abbrev pub opened_in : List ℕ → List (List ℕ) → Option Opened
opened_in text later = opened_at (greeting_at (front text)) text later

-- the handshake's pieces are the first ones, as few as hold its success; `heard` is what came before these, and
-- does not
abbrev pub opened_from : List ℕ → List (List ℕ) → Option Opened
opened_from heard [] = None
opened_from heard (piece ∷ later) = option_or (opened_in (heard ++ piece) later) (opened_from (heard ++ piece) later)

-- what a link's pieces say of its handshake; none where they hold no success
abbrev pub opened : List (List ℕ) → Option Opened
opened pieces = opened_from [] pieces
