-- All moves were made, or the first that may not come is named.
use Rattle.nats_mesh.specs.Meshes.{mesh_of}
use Rattle.nats_mesh.proofs.Hearing.{meshed, refused_so, wanted}
use Rattle.nats_mesh.proofs.meshes.play_on.Goals as goal

pub returns-in_ok-transcripts-in-Ok : goal.returns-in_ok-transcripts-in-Ok
returns-in_ok-transcripts-in-Ok c =
    meshed c.args.moves.now (mesh_of c.args.clients.now c.args.broker.now) (mesh_of c.play_all.new.clients c.play_all.new.broker)
    c.in_ok-transcripts-in-Ok.field-0.items c.in-Ok.ensures c.in_ok-transcripts-in-Ok.ensures

pub returns-in-Err : goal.returns-in-Err
returns-in-Err c =
    refused_so c.args.moves.now (mesh_of c.args.clients.now c.args.broker.now) (mesh_of c.play_all.new.clients c.play_all.new.broker)
    c.in-Err.refused c.in-Err.ensures

pub returns-in_err-transcripts-in-Ok : goal.returns-in_err-transcripts-in-Ok
returns-in_err-transcripts-in-Ok c =
    wanted _ (mesh_of c.args.clients.now c.args.broker.now) c.args.moves.now c.from_residual.result c.from_residual.ensures
