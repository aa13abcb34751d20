-- What the refusals of a pool print.
use Rattle.std.specs.Prelude.{ℕ, List, codes}
use Rattle.nats_pool.specs.declared.pool_error.SetServerPoolErrorKind.{SetServerPoolErrorKind}
use Rattle.nats_pool.specs.declared.pool_error.SetServerPoolErrorKind.TheVariants as kind

abbrev pub set_server_pool_text : SetServerPoolErrorKind → List ℕ
set_server_pool_text kind.Send = codes "failed to send set_server_pool command"
set_server_pool_text kind.InvalidAddress = codes "invalid server address"
set_server_pool_text kind.EmptyPool = codes "server pool cannot be empty"
set_server_pool_text kind.MixedSchemes = codes "cannot mix websocket and non-websocket URLs in server pool"
set_server_pool_text kind.NoMemory = codes "out of memory"
