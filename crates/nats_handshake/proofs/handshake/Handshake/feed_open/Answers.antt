-- What comes of bytes once they are there, or cannot be.
use Rattle.std.proofs.Common.{◌≡◌, refl}
use Rattle.nats_pool.specs.Auths.{auth_value}
use Rattle.nats_handshake.specs.Credentials.{SignerAnswers, AuthAnswers, Offers}
use Rattle.nats_handshake.proofs.Shakings.{fed_settled, fed_wanting}
use Rattle.nats_handshake.proofs.handshake.Handshake.feed_open.Goals as goal

pub returns-in-Ok : goal.returns-in-Ok
returns-in-Ok g c = fed_settled (g.P.ServerList.Takes c.args.pool.now c.settle.new.pool) (c.settle.new.pool ≡ c.args.pool.now)
    (Offers SignerAnswers AuthAnswers c.args.options.now.signer c.args.options.now.auth_callback (auth_value c.args.options.now.auth))
    c.args.options.now.tls_required c.args.options.now.name c.args.options.now.no_echo
    c.args.self.now c.append.new.self c.settle.new.self c.args.bytes.now c.unread_len-before.result c.settle.result
    c.in-Ok.ensures.ok c.unread_len-before.ensures c.settle.ensures

pub returns-in-Err : goal.returns-in-Err
returns-in-Err g c = rw (c.new.ensures, c.in-Err.ensures.err) (fed_wanting (g.P.ServerList.Takes c.args.pool.now c.args.pool.now) (c.args.pool.now ≡ c.args.pool.now)
    (Offers SignerAnswers AuthAnswers c.args.options.now.signer c.args.options.now.auth_callback (auth_value c.args.options.now.auth))
    c.args.options.now.tls_required c.args.options.now.name c.args.options.now.no_echo
    c.args.self.now c.args.bytes.now refl)
