-- Each client came up, and the moves were made from there.
use Rattle.std.proofs.Common.{subst, ◌∙◌, Vec, Global}
use Rattle.std.specs.Result.{result_map_both}
use Rattle.nats_history.specs.declared.transcript.Transcript.{Transcript}
use Rattle.nats_moves.specs.Mesh.{new_mesh}
use Rattle.nats_mesh.specs.Meshes.{MeshesFrom}
use Rattle.nats_mesh.proofs.Hearing.{begun, wanted}
use Rattle.nats_mesh.proofs.meshes.play_mesh.Goals as goal

pub returns : goal.returns
returns c =
    subst (λ start. MeshesFrom start c.args.moves.now (result_map_both (λ (rows : Vec Transcript Global). rows.items) (λ error. error) c.play_on.result))
    (begun c.args.info c.args.configs.now c.as_mut_slice.result.now c.in_ok-broker.broker (c.as_mut_slice.ensures.value ∙ c.in_ok-clients.ensures)
    c.in_ok-broker.ensures.joined)
    c.play_on.ensures

pub returns-in_err-clients : goal.returns-in_err-clients
returns-in_err-clients c =
    wanted _ (new_mesh c.args.info c.args.configs.now) c.args.moves.now c.from_residual.result c.from_residual.ensures

pub returns-in_err-broker : goal.returns-in_err-broker
returns-in_err-broker c =
    wanted _ (new_mesh c.args.info c.args.configs.now) c.args.moves.now c.from_residual-in_err-broker.result c.from_residual-in_err-broker.ensures
