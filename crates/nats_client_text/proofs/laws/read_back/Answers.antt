-- The texts are read back.
use Rattle.nats_client_text.proofs.Written as written
use Rattle.nats_client_text.proofs.laws.read_back.Goals as goal

pub returns : goal.returns
returns c = written.read_back
