-- What polls of a client that was shut answer.
use Rattle.std.specs.Prelude.{◌≡◌, Option, Some, Result, Err}
use Rattle.nats_names.specs.declared.cause.Cause.{Cause}
use Rattle.nats_names.specs.declared.cause.Cause.TheVariants as cause
use Rattle.nats_system.specs.declared.errors.PublishErrorKind.{PublishErrorKind}
use Rattle.nats_system.specs.declared.errors.PublishErrorKind.TheVariants as publish

-- the session takes no more, or this client was shut
abbrev pub unsent : PublishErrorKind × Option Cause
unsent = (publish.Send, Some cause.Closed)
