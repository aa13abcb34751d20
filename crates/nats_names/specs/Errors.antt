-- The texts of errors and states.
use Rattle.std.specs.Prelude.{ℕ, List, ◌++◌, codes}
use Rattle.std.specs.Fmt.{decimal}
use Rattle.nats_names.specs.declared.subject_error.SubjectError.{SubjectError}
use Rattle.nats_names.specs.declared.subject_error.SubjectError.TheVariants as subject
use Rattle.nats_names.specs.declared.server_error.ServerError.{ServerError}
use Rattle.nats_names.specs.declared.server_error.ServerError.TheVariants as server
use Rattle.nats_names.specs.declared.client_error.ClientError.{ClientError}
use Rattle.nats_names.specs.declared.client_error.ClientError.TheVariants as client
use Rattle.nats_names.specs.declared.client_error.CallbackError.{CallbackError}
use Rattle.nats_names.specs.declared.client_error.CallbackError.TheVariants as callback
use Rattle.nats_names.specs.declared.addr_error.AddrError.{AddrError}
use Rattle.nats_names.specs.declared.addr_error.AddrError.TheVariants as addr
use Rattle.nats_names.specs.declared.state.State.{State}
use Rattle.nats_names.specs.declared.state.State.TheVariants as state

-- what an error of a subject prints
abbrev pub subject_error_text : SubjectError → List ℕ
subject_error_text subject.InvalidFormat = codes "invalid subject format"
subject_error_text subject.NoMemory = codes "out of memory"

-- what an error of the server prints
abbrev pub server_error_text : ServerError → List ℕ
server_error_text server.AuthorizationViolation = codes "nats: authorization violation"
server_error_text (server.SlowConsumer sid) =
    codes "nats: subscription " ++ decimal sid ++ codes " is a slow consumer"
server_error_text (server.Other text) = codes "nats: " ++ text

-- what an error of the client prints
abbrev pub client_error_text : ClientError → List ℕ
client_error_text (client.Other text) = codes "nats: " ++ text
client_error_text client.MaxReconnects = codes "nats: max reconnects reached"
client_error_text client.ServerNotInPool = codes "nats: reconnect callback returned server not in pool"

-- what either prints
abbrev pub callback_error_text : CallbackError → List ℕ
callback_error_text (callback.Client error) = client_error_text error
callback_error_text (callback.Server error) = server_error_text error

-- what the refusal of a signer or an authentication callback prints, of its words
abbrev pub auth_error_text : List ℕ → List ℕ
auth_error_text words = codes "AuthError(" ++ words ++ codes ")"

-- what the refusal of an address prints
abbrev pub addr_error_text : AddrError → List ℕ
addr_error_text addr.Url = codes "NATS server URL is invalid"
addr_error_text addr.Scheme = codes "invalid scheme for NATS server URL"
addr_error_text addr.NoMemory = codes "out of memory"

-- what the state of a connection prints
abbrev pub state_text : State → List ℕ
state_text state.Pending = codes "pending"
state_text state.Connected = codes "connected"
state_text state.Disconnected = codes "disconnected"
