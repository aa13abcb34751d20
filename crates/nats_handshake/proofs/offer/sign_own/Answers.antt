use Rattle.std.proofs.Common.{◌≡◌}
use Rattle.nats_pool.specs.Auths.{auth_value}
use Rattle.nats_handshake.specs.Credentials.{SignerAnswers, Signed, signed_by}
use Rattle.nats_handshake.proofs.Tellings.{tells_map}
use Rattle.nats_handshake.proofs.offer.sign_own.Goals as goal

pub returns : goal.returns
returns g c = tells_map c.signed.result (λ r. r ≡ signed_by (auth_value c.args.auth.now) c.in_ok-answer.answer)
    (Signed SignerAnswers c.args.signer.now (auth_value c.args.auth.now) c.args.nonce.now)
    (λ r e. (c.in_ok-answer.answer, c.in_ok-answer.ensures, e)) c.signed.ensures
