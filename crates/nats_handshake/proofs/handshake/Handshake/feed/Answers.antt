-- What comes of bytes, of one that was refused and of one that was not.
use Rattle.std.proofs.Common.{◌≡◌, refl, sym}
use Rattle.nats_pool.specs.Auths.{auth_value}
use Rattle.nats_handshake.specs.Credentials.{SignerAnswers, AuthAnswers, Offers}
use Rattle.nats_handshake.proofs.Shakings.{fed_refused, fed_open}
use Rattle.nats_handshake.proofs.handshake.Handshake.feed.Goals as goal

pub returns-in-Some : goal.returns-in-Some
returns-in-Some g c = rw c.new.ensures (fed_refused (g.P.ServerList.Takes c.args.pool.now c.args.pool.now) (c.args.pool.now ≡ c.args.pool.now)
    (Offers SignerAnswers AuthAnswers c.args.options.now.signer c.args.options.now.auth_callback (auth_value c.args.options.now.auth))
    c.args.options.now.tls_required c.args.options.now.name c.args.options.now.no_echo
    c.args.self.now.stage c.args.self.now c.args.bytes.now c.in-Some.kind (sym c.in-Some.ensures) refl)

pub returns-in-None : goal.returns-in-None
returns-in-None g c = fed_open (g.P.ServerList.Takes c.args.pool.now c.feed_open.new.pool) (c.feed_open.new.pool ≡ c.args.pool.now)
    (Offers SignerAnswers AuthAnswers c.args.options.now.signer c.args.options.now.auth_callback (auth_value c.args.options.now.auth))
    c.args.options.now.tls_required c.args.options.now.name c.args.options.now.no_echo
    c.args.self.now.stage c.args.self.now c.feed_open.new.self c.args.bytes.now c.feed_open.result (sym c.in-None.ensures) c.feed_open.ensures
