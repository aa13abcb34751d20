-- What an operation says.
use Rattle.std.specs.Prelude.{ℕ, List, [], ◌∷◌, codes}
use Rattle.nats_names.specs.declared.server_error.ServerError.{ServerError}
use Rattle.nats_info.specs.declared.info.ServerInfo.{ServerInfo}
use Rattle.nats_message.specs.declared.message.Message.{Message}
use Rattle.nats_message.specs.declared.op.ServerOp.{ServerOp}
use Rattle.nats_message.specs.declared.op.ServerOp.TheVariants as server
use Rattle.nats_message.specs.declared.op.PeekedOp.{PeekedOp}
use Rattle.nats_message.specs.declared.op.PeekedOp.TheVariants as peeked
use Rattle.nats_message.specs.declared.op.WireError.{WireError}
use Rattle.nats_message.specs.declared.op.WireError.TheVariants as refused

-- the end of each line
abbrev pub crlf : List ℕ
crlf = 13 ∷ 10 ∷ []

-- an operation by its content
pub data Operation : Type 0 where
  message : ℕ → Message → Operation
  info_op : ServerInfo → Operation
  error_op : ServerError → Operation
  ok_op ping_op pong_op : Operation

abbrev pub op_view : ServerOp → Operation
op_view (server.Message sid m) = message sid m
op_view (server.Info info) = info_op info.value
op_view (server.Error error) = error_op error
op_view server.Ok = ok_op
op_view server.Ping = ping_op
op_view server.Pong = pong_op

-- the same of one that is handed on before it is consumed
abbrev pub peeked_view : PeekedOp → Operation
peeked_view (peeked.Message sid m) = message sid m.value
peeked_view (peeked.Info info) = info_op info.value
peeked_view (peeked.Error error) = error_op error
peeked_view peeked.Ok = ok_op
peeked_view peeked.Ping = ping_op
peeked_view peeked.Pong = pong_op

-- what the refusal of a read prints
abbrev pub wire_error_text : WireError → List ℕ
wire_error_text refused.ReadFault = codes "invalid server operation"
wire_error_text refused.NoMemory = codes "out of memory"
