-- The reply of the turn that was played is that it was accepted.
use Rattle.std.proofs.lemmas.Result.{on_ok_weaker}
use Rattle.nats_history.specs.declared.turn.Turn.TheVariants as turns
use Rattle.nats_seat_workers.specs.Publishing.{publish_of}
use Rattle.nats_seat_workers.proofs.Working.{accepted_then}
use Rattle.nats_seat_workers.proofs.publishing.publish.Goals as goal

pub returns : goal.returns
returns g c =
    on_ok_weaker c.accepted-told.result (λ was.
    accepted_then c.args.seat.now c.submit-played.new.self (publish_of c.args.worker c.args.k) (turns.Do c.in_ok-call.call) c.submit-played.result c.in_ok-call.ensures c.submit-played.ensures.played was)
    c.accepted-told.ensures
