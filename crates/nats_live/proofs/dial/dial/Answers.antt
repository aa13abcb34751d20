-- A link came of the address, or a round with its server alone gave none.
use Rattle.std.proofs.Common.{refl, subst}
use Rattle.std.specs.Prelude.{IfErr, OnErr}
use Rattle.nats_outside.specs.Told.{Seen}
use Rattle.nats_dial.specs.Causes.{AllBack, Onward}
use Rattle.nats_live.specs.Causes.{LinkedTo, WhyNotDialed}
use Rattle.nats_dial.proofs.Returning.{back_kept}
use Rattle.nats_live.proofs.Dialing.{if_err_to, if_ok_to, on_err, not_dialed}
use Rattle.nats_live.proofs.dial.dial.Goals as goal

pub returns-clause-onward : goal.returns-clause-onward
returns-clause-onward g c =
    subst (λ (a : Seen). Onward a (g.W.Reach.seen c.link_to.new.world)) c.draw-start.ensures.told
    c.link_to.ensures.onward

pub returns-clause-refused : goal.returns-clause-refused
returns-clause-refused g c =
    subst (λ (a : Seen). IfErr c.link_to.result (λ e. WhyNotDialed c.args.addr.now a e (g.W.Reach.seen c.link_to.new.world)))
    c.draw-start.ensures.told
    (if_err_to _ _ c.link_to.result c.link_to.ensures.refused
    (λ e why. not_dialed c.args.addr.now c.in_ok-server.server (g.W.Reach.seen c.draw-start.new.world)
    (g.W.Reach.seen c.link_to.new.world) e c.in_ok-server.ensures.ok why))

pub returns-clause-up : goal.returns-clause-up
returns-clause-up g c =
    if_ok_to _ _ c.link_to.result c.link_to.ensures.up
    (λ linked to. (
      c.in_ok-server.server,
      c.in_ok-server.ensures.ok,
      subst (λ (a : Seen). LinkedTo c.in_ok-server.server linked.info linked.rest.items
          (g.W.Read.LinkRead.read_told linked.read) (g.W.Write.LinkWrite.write_told linked.write) a
          (g.W.Reach.seen c.link_to.new.world)) c.draw-start.ensures.told to,
    ))

pub returns-clause-back : goal.returns-clause-back
returns-clause-back g c =
    subst (λ (a : Seen). OnErr c.link_to.result (AllBack a (g.W.Reach.seen c.link_to.new.world)))
    c.draw-start.ensures.told c.link_to.ensures.back

-- nothing was dialed
pub returns-in_err-server-clause-back : goal.returns-in_err-server-clause-back
returns-in_err-server-clause-back g c = on_err _ c.from_residual.result
    (back_kept (g.W.Reach.seen c.args.world.now) (g.W.Reach.seen c.args.world.now) refl)
