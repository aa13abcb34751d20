-- One publish more is accepted at each turn of the loop.
use Rattle.std.proofs.Common.{◌≡◌, arith, subst}
use Rattle.nats_seat_workers.specs.Publishing.{HasWorked}
use Rattle.nats_seat_workers.proofs.Working.{publish_step}
use Rattle.nats_seat_workers.proofs.publishing.publish_all.Goals as goal

pub publishes-preserved : goal.publishes-preserved
publishes-preserved g c = (
  publish_step c.args.worker c.publishes.done c.args.seat c.publishes.seat c.publish.new.seat c.publishes.invariant.0 c.in_ok-publish.ensures,
  omega arith,
)

pub returns : goal.returns
returns g c =
    let all : c.publishes.done ≡ c.args.count = omega arith in
    subst (λ n. HasWorked c.args.worker n c.args.seat c.publishes.seat) all c.publishes.invariant.0
