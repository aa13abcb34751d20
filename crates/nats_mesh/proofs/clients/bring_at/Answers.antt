-- The bytes are brought to one client.
use Rattle.nats_mesh.proofs.Indexing.{brings_zero, brings_past, brings_there}
use Rattle.nats_mesh.proofs.clients.bring_at.Goals as goal

pub returns-then-i-eq0 : goal.returns-then-i-eq0
returns-then-i-eq0 c = brings_zero c.args.text.now c.args.i c.args.n c.args.clients.now c.if-i-eq0.true

pub returns-then-clients-i : goal.returns-then-clients-i
returns-then-clients-i c = brings_past c.args.text.now c.args.i c.args.n c.args.clients.now c.if-clients-i.true

pub returns : goal.returns
returns c =
    brings_there c.args.text.now c.args.i c.args.n c.args.clients.now c.index-clients-i.result c.bring.new.self c.bring.result
    c.if-i-eq0.false c.if-clients-i.false c.bring.ensures
