use Rattle.std.proofs.Common.{refl, Ok, Err}
use Rattle.nats_pool.specs.Auths.{auth_value}
use Rattle.nats_handshake.specs.Credentials.{SignerAnswers, AuthAnswers, SignedBy, ToldBy, Offers}
use Rattle.nats_handshake.proofs.Tellings.{tells_map, refused_map}
use Rattle.nats_handshake.proofs.offer.credentials.Goals as goal

pub returns-in-Ok : goal.returns-in-Ok
returns-in-Ok g c = tells_map c.told.result
    (ToldBy AuthAnswers c.args.options.now.auth_callback c.args.nonce.now (auth_value c.in-Ok.own))
    (Offers SignerAnswers AuthAnswers c.args.options.now.signer c.args.options.now.auth_callback
    (auth_value c.args.options.now.auth) c.args.nonce.now)
    (λ r t. (Ok (auth_value c.in-Ok.own), c.in-Ok.ensures, t)) c.told.ensures

pub returns-in-Err : goal.returns-in-Err
returns-in-Err g c = refused_map _ _
    (SignedBy SignerAnswers ((auth_value c.args.options.now.auth).jwt) c.args.options.now.signer
    (auth_value c.args.options.now.auth) c.args.nonce.now)
    (Offers SignerAnswers AuthAnswers c.args.options.now.signer c.args.options.now.auth_callback
    (auth_value c.args.options.now.auth) c.args.nonce.now)
    (λ e p. (Err e, p, refl)) c.in-Err.ensures
