-- The turn is that of this link.
use Rattle.std.proofs.lemmas.Result.{on_ok_weaker}
use Rattle.nats_seat_workers.proofs.Working.{is_up}
use Rattle.nats_seat_workers.proofs.closed.bring_up.Goals as goal

pub returns : goal.returns
returns g c =
    on_ok_weaker c.play_one.result (λ plays.
    is_up c.args.first.now c.play_one.new.first c.default-info.result c.requires c.default-info.ensures plays)
    c.play_one.ensures
