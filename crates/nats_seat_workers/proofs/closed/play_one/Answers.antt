-- The turn was played.
use Rattle.std.proofs.lemmas.Result.{on_ok_weaker}
use Rattle.nats_seat_workers.proofs.Working.{played_then}
use Rattle.nats_seat_workers.proofs.closed.play_one.Goals as goal

pub returns : goal.returns
returns g c =
    on_ok_weaker c.once_played-told.result (λ was.
    played_then c.args.first.now c.play-played.new.self c.args.turn c.play-played.result c.play-played.ensures.played was)
    c.once_played-told.ensures
