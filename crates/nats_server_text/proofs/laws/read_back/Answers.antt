-- Text by text.
use Rattle.nats_server_text.proofs.Told.{read_back}
use Rattle.nats_server_text.proofs.laws.read_back.Goals as goal

pub returns : goal.returns
returns g = read_back
