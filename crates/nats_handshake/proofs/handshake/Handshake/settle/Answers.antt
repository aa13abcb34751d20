-- A refusal is kept, but for want of memory.
use Rattle.std.proofs.Common.{◌≡◌}
use Rattle.nats_pool.specs.Auths.{auth_value}
use Rattle.nats_handshake.specs.Credentials.{SignerAnswers, AuthAnswers, Offers}
use Rattle.nats_handshake.proofs.Shakings.{settles_left}
use Rattle.nats_handshake.proofs.handshake.Handshake.settle.Goals as goal

pub returns-in-Ok : goal.returns-in-Ok
returns-in-Ok g c = c.in-Ok.ensures

pub returns-in-Err : goal.returns-in-Err
returns-in-Err g c = rw c.into_error.ensures (settles_left (g.P.ServerList.Takes c.args.pool.now c.heed.new.pool) (c.heed.new.pool ≡ c.args.pool.now)
    (Offers SignerAnswers AuthAnswers c.args.options.now.signer c.args.options.now.auth_callback (auth_value c.args.options.now.auth))
    c.args.options.now.tls_required c.args.options.now.name c.args.options.now.no_echo
    c.args.self.now.stage c.args.self.now c.heed.new.self c.leave.new.self c.args.before c.in-Err.refusal c.kind.result c.in-Err.ensures
    c.kind.ensures c.leave.ensures)
