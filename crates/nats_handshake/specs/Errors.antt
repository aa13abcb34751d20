-- What the kinds of an error of connecting print.
use Rattle.std.specs.Prelude.{ℕ, List, Option, codes}
use Rattle.nats_names.specs.declared.cause.Cause.{Cause}
use Rattle.nats_handshake.specs.declared.error.ConnectErrorKind.{ConnectErrorKind}
use Rattle.nats_handshake.specs.declared.error.ConnectErrorKind.TheVariants as kind

abbrev pub kind_text : ConnectErrorKind → List ℕ
kind_text kind.ServerParse = codes "failed to parse server or server list"
kind_text kind.Dns = codes "DNS error"
kind_text kind.Authentication = codes "failed signing nonce"
kind_text kind.AuthorizationViolation = codes "authorization violation"
kind_text kind.TimedOut = codes "timed out"
kind_text kind.Tls = codes "TLS error"
kind_text kind.Io = codes "IO error"
kind_text kind.MaxReconnects = codes "reached maximum number of reconnects"
kind_text kind.NoMemory = codes "out of memory"

-- an error of connecting: its kind, and what it came of
abbrev pub Failure : Type 0
Failure = ConnectErrorKind × Option Cause
