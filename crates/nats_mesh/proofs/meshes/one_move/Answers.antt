-- A call, a take, and bytes that go one way or the other.
use Rattle.std.proofs.Common.{subst, sym}
use Rattle.nats_history.specs.declared.turn.Turn.TheVariants as turns
use Rattle.nats_mesh.specs.Clients.{SteppedAt}
use Rattle.nats_mesh.specs.Meshes.{mesh_of, Moved}
use Rattle.nats_mesh.proofs.Moving.{does, takes}
use Rattle.nats_mesh.proofs.meshes.one_move.Goals as goal

pub returns-in_ok-call-in-Do : goal.returns-in_ok-call-in-Do
returns-in_ok-call-in-Do c =
    subst (λ move. Moved move (mesh_of c.args.clients.now c.args.broker.now) c.step_at.result (mesh_of c.step_at.new.clients c.args.broker.now))
    (sym c.in-Do.is)
    (does c.args.clients.now c.step_at.new.clients c.args.broker.now c.in-Do.i c.in-Do.call c.step_at.result c.requires
    (subst (λ call. SteppedAt c.in-Do.i (turns.Do call) c.args.clients.now c.step_at.result c.step_at.new.clients) c.in_ok-call-in-Do.ensures
    c.step_at.ensures))

pub returns-in-Take : goal.returns-in-Take
returns-in-Take c =
    subst (λ move. Moved move (mesh_of c.args.clients.now c.args.broker.now) c.step_at-in-Take.result (mesh_of c.step_at-in-Take.new.clients c.args.broker.now))
    (sym c.in-Take.is)
    (takes c.args.clients.now c.step_at-in-Take.new.clients c.args.broker.now c.in-Take.i c.in-Take.sid c.step_at-in-Take.result c.requires
    c.step_at-in-Take.ensures)
