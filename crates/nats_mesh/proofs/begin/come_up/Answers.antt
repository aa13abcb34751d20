-- What the clients read is what the broker's first line has.
use Rattle.nats_mesh.proofs.Hearing.{all_up}
use Rattle.nats_mesh.proofs.begin.come_up.Goals as goal

pub returns : goal.returns
returns c = all_up c.clients_of.result c.args.info.now c.args.configs.now c.in_ok-told.told c.in_ok-told.ensures c.clients_of.ensures
