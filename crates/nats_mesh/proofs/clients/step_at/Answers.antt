-- One client plays the turn.
use Rattle.nats_mesh.proofs.Indexing.{steps_zero, steps_past, steps_there}
use Rattle.nats_mesh.proofs.clients.step_at.Goals as goal

pub returns-then-i-eq0 : goal.returns-then-i-eq0
returns-then-i-eq0 c = steps_zero c.args.turn c.args.i c.args.clients.now c.if-i-eq0.true

pub returns-then-clients-i : goal.returns-then-clients-i
returns-then-clients-i c = steps_past c.args.turn c.args.i c.args.clients.now c.if-clients-i.true

pub returns : goal.returns
returns c =
    steps_there c.args.turn c.args.i c.args.clients.now c.index-clients-i.result c.step.new.self c.step.result c.if-i-eq0.false
    c.if-clients-i.false c.step.ensures
