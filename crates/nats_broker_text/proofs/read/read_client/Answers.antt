-- Memory is taken only where a command is there whole.
use Rattle.nats_broker_text.proofs.Fronts.{memory_there, where_refused}
use Rattle.nats_broker_text.proofs.read.read_client.Goals as goal

pub returns-in_err-read_client_op-clause-memory : goal.returns-in_err-read_client_op-clause-memory
returns-in_err-read_client_op-clause-memory c =
    where_refused c.from_residual.result (memory_there c.args.text.now c.in_err-read_client_op.ensures.memory)
