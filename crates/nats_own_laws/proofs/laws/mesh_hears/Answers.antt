-- The law, move by move.
use Rattle.nats_own_laws.proofs.Begins as begins
use Rattle.nats_own_laws.proofs.laws.mesh_hears.Goals as goal

pub returns : goal.returns
returns c = begins.mesh_hears c.own_numbers.ensures c.told_own.ensures c.texts_grow.ensures c.read_back.ensures
