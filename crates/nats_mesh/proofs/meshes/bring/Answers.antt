-- The next bytes of what was told are brought.
use Rattle.std.proofs.Common.{sym, ◌∙◌, subst}
use Rattle.nats_mesh.specs.Clients.{BroughtAt}
use Rattle.nats_mesh.proofs.Moving.{brings_down, brings}
use Rattle.nats_mesh.proofs.meshes.bring.Goals as goal

pub returns-then-not-is_up_at : goal.returns-then-not-is_up_at
returns-then-not-is_up_at c =
    brings_down c.args.clients.now c.args.broker.now c.args.i c.args.n (sym c.is_up_at.ensures ∙ c.if-not-is_up_at.true)

pub returns : goal.returns
returns c =
    brings c.args.clients.now c.bring_at.new.clients c.args.broker.now c.args.i c.args.n c.bring_at.result c.requires
    (sym c.is_up_at.ensures ∙ c.if-not-is_up_at.false)
    (subst (λ text. BroughtAt c.args.i text c.args.n c.args.clients.now c.bring_at.result c.bring_at.new.clients) c.told_behind-text.ensures
    c.bring_at.ensures)
