-- The law.
use Rattle.nats_server_laws.proofs.Growing.{texts_grow}
use Rattle.nats_server_laws.proofs.laws.texts_grow.Goals as goal

pub returns : goal.returns
returns c = texts_grow
