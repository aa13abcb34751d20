-- One worker is joined to the seat that joined the others.
use Rattle.std.proofs.Common.{◌≡◌, ◌+◌, ◌-◌, ◌<◌, arith, rules, subst}
use Rattle.nats_seats.specs.Seats.{Known}
use Rattle.nats_seat_workers.specs.Publishing.{AllWorked, HasWorked}
use Rattle.nats_seat_workers.proofs.Working.{join_step}
use Rattle.nats_seat_workers.proofs.workers.+fn-run_workers-join+arg3+run_workers.Goals as goal

pub returns : goal.returns
returns g t c =
    let pos : 0 < c.args.left = omega arith in
    let same : c.seat_of.new.main ≡ c.args.main = search rules in
    let all : AllWorked c.args.count (c.args.worker + 1) (c.args.left - 1) c.seat_of.new.main c.in_ok-main.main = search rules in
    let one : HasWorked c.args.worker c.args.count c.in_ok-seat.seat c.in_ok-one.one = search rules in
    join_step c.args.count c.args.worker c.args.left c.args.main c.in_ok-main.main c.in_ok-seat.seat c.in_ok-one.one c.join.new.self pos
    (subst (λ (m : Known). AllWorked c.args.count (c.args.worker + 1) (c.args.left - 1) m c.in_ok-main.main) same all) one c.join.ensures
