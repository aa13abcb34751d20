-- the moves that are left lead to the same
use Rattle.std.proofs.Common.{◌≡◌, ◌≤◌, ◌-◌, suc, false, length, drop}
use Rattle.nats_broker.specs.Playing.{is_due}
use Rattle.nats_moves.specs.Mesh.{moved, out_of_turn_from}
use Rattle.nats_mesh.specs.Meshes.{mesh_of}
use Rattle.nats_mesh.proofs.meshes.play_all.Given as goal

abbrev pub invariant-moves : goal.invariant-moves
invariant-moves l = record {
  within : l.place ≤ length l.fn.moves;
  quiet : is_due l.broker ≡ false;
  rest : moved (drop l.place l.fn.moves) (mesh_of l.clients l.broker) ≡ moved l.fn.moves (mesh_of l.fn.clients l.fn.broker);
  first : out_of_turn_from (suc l.place) (drop l.place l.fn.moves) (mesh_of l.clients l.broker)
      ≡ out_of_turn_from 1 l.fn.moves (mesh_of l.fn.clients l.fn.broker);
}

abbrev pub decreases-moves : goal.decreases-moves
decreases-moves l = length l.fn.moves - l.place
