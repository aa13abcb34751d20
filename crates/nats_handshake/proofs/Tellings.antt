-- What is told of an answer is told of what follows from it.
use Rattle.std.proofs.Common.{ℕ, List, Option, Result, Ok, Err}
use Rattle.nats_names.specs.declared.cause.Cause.{Cause}
use Rattle.nats_pool.specs.declared.auth.Auth.{Auth}
use Rattle.nats_pool.specs.Auths.{AuthValue, auth_value}
use Rattle.nats_handshake.specs.Errors.{Failure}
use Rattle.nats_handshake.specs.declared.error.ConnectErrorKind.{ConnectErrorKind}
use Rattle.nats_handshake.specs.declared.error.ConnectErrorKind.TheVariants as kind
use Rattle.nats_handshake.specs.Credentials.{RefusedAs, Tells}

pub refused_map : (k : ConnectErrorKind) (source : Option Cause) (P Q : Result AuthValue (List ℕ) → Type 0)
    → ((e : List ℕ) → P (Err e) → Q (Err e)) → RefusedAs k source P → RefusedAs k source Q
refused_map kind.Authentication source P Q f r = (r.0, r.1, f r.0 r.2)
refused_map kind.NoMemory source P Q f r = r
refused_map kind.ServerParse source P Q f r = absurd r
refused_map kind.Dns source P Q f r = absurd r
refused_map kind.AuthorizationViolation source P Q f r = absurd r
refused_map kind.TimedOut source P Q f r = absurd r
refused_map kind.Tls source P Q f r = absurd r
refused_map kind.Io source P Q f r = absurd r
refused_map kind.MaxReconnects source P Q f r = absurd r

pub tells_map : (res : Result Auth Failure) (P Q : Result AuthValue (List ℕ) → Type 0)
    → ((r : Result AuthValue (List ℕ)) → P r → Q r) → Tells res P → Tells res Q
tells_map (Ok auth) P Q f t = f (Ok (auth_value auth)) t
tells_map (Err e) P Q f t = refused_map e.0 e.1 P Q (λ w p. f (Err w) p) t
