-- The texts of events.
use Rattle.std.specs.Prelude.{ℕ, List, ◌++◌, codes}
use Rattle.std.specs.Fmt.{decimal}
use Rattle.nats_names.specs.Errors.{server_error_text, client_error_text}
use Rattle.nats_names.specs.declared.event.Event.{Event}
use Rattle.nats_names.specs.declared.event.Event.TheVariants.{Connected, Disconnected, LameDuckMode, Draining, Closed, SlowConsumer, ServerError, ClientError}

-- what an event prints
abbrev pub event_text : Event → List ℕ
event_text Connected = codes "connected"
event_text Disconnected = codes "disconnected"
event_text LameDuckMode = codes "lame duck mode detected"
event_text Draining = codes "draining"
event_text Closed = codes "closed"
event_text (SlowConsumer sid) = codes "slow consumers for subscription " ++ decimal sid
event_text (ServerError error) = codes "server error: " ++ server_error_text error
event_text (ClientError error) = codes "client error: " ++ client_error_text error
