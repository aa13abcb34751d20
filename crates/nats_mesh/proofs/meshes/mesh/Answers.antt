-- What the transcripts tell is what was told.
use Rattle.std.proofs.Common.{Vec, Global}
use Rattle.std.specs.Result.{result_map_both}
use Rattle.nats_history.specs.declared.transcript.Transcript.{Transcript}
use Rattle.nats_mesh.proofs.Hearing.{hears}
use Rattle.nats_mesh.proofs.meshes.mesh.Goals as goal

pub returns-clause-hears : goal.returns-clause-hears
returns-clause-hears c =
    hears c.mesh_hears.ensures c.args.info c.args.configs.now c.args.moves.now
    (result_map_both (λ (rows : Vec Transcript Global). rows.items) (λ error. error) c.play_mesh.result) c.tell_info.ensures.id
    c.tell_info.ensures.limit c.tell_configs.ensures c.tell_moves.ensures c.play_mesh.ensures
