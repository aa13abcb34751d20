use Rattle.std.proofs.Common.{◌≡◌}
use Rattle.nats_handshake.specs.Credentials.{AuthAnswers, Told, told_by}
use Rattle.nats_handshake.proofs.Tellings.{tells_map}
use Rattle.nats_handshake.proofs.offer.ask_for.Goals as goal

pub returns : goal.returns
returns g c = tells_map c.offered.result (λ r. r ≡ told_by c.in_ok-answer.answer)
    (Told AuthAnswers c.args.callback.now c.args.nonce.now)
    (λ r e. (c.in_ok-answer.answer, c.in_ok-answer.ensures, e)) c.offered.ensures
