-- A server is asked for by its host and port.
use Rattle.nats_pool.specs.Auths.{auth_value}
use Rattle.nats_handshake.specs.Credentials.{SignerAnswers, AuthAnswers, Offers}
use Rattle.nats_dial.proofs.Going.{asks_given, asks_failed, asks_wanting}
use Rattle.nats_dial.proofs.server.ask.Goals as goal

pub returns-in-Ok-clause-asks : goal.returns-in-Ok-clause-asks
returns-in-Ok-clause-asks g c = asks_given
    g.P.ServerList.Takes g.P.Rounds.Counts g.P.Rounds.Hands g.P.Rounds.Begins g.P.Rounds.round_told
    (Offers SignerAnswers AuthAnswers c.args.options.now.signer c.args.options.now.auth_callback (auth_value c.args.options.now.auth))
    c.args.options.now.tls_required c.args.options.now.name c.args.options.now.no_echo c.args.options.now.connection_timeout
    g.W.Read.LinkRead.read_told g.W.Write.LinkWrite.write_told
    c.args.addr.now c.in-Ok.addresses.items c.as_slice.result.now c.host.result.now c.port.result
    (g.W.Reach.seen c.args.world.now) (g.W.Reach.seen c.resolve.new.world) c.args.pool.now c.try_each.result
    (g.W.Reach.seen c.try_each.new.world) c.try_each.new.pool
    c.host.ensures c.port.ensures c.as_slice.ensures.value c.in-Ok.ensures.told c.try_each.ensures.tries

pub returns-in-Err-Failed-clause-asks : goal.returns-in-Err-Failed-clause-asks
returns-in-Err-Failed-clause-asks g c = asks_failed
    g.P.ServerList.Takes g.P.Rounds.Counts g.P.Rounds.Hands g.P.Rounds.Begins g.P.Rounds.round_told
    (Offers SignerAnswers AuthAnswers c.args.options.now.signer c.args.options.now.auth_callback (auth_value c.args.options.now.auth))
    c.args.options.now.tls_required c.args.options.now.name c.args.options.now.no_echo c.args.options.now.connection_timeout
    g.W.Read.LinkRead.read_told g.W.Write.LinkWrite.write_told
    c.args.addr.now c.host.result.now c.port.result (g.W.Reach.seen c.args.world.now) c.args.pool.now c.unresolved.result
    (g.W.Reach.seen c.resolve.new.world) c.host.ensures c.port.ensures c.unresolved.ensures
    (rw c.in-Err-Failed.field-0-is at c.in-Err-Failed.ensures.told)

pub returns-in-Err-NoMemory-clause-asks : goal.returns-in-Err-NoMemory-clause-asks
returns-in-Err-NoMemory-clause-asks g c = asks_wanting
    g.P.ServerList.Takes g.P.Rounds.Counts g.P.Rounds.Hands g.P.Rounds.Begins g.P.Rounds.round_told
    (Offers SignerAnswers AuthAnswers c.args.options.now.signer c.args.options.now.auth_callback (auth_value c.args.options.now.auth))
    c.args.options.now.tls_required c.args.options.now.name c.args.options.now.no_echo c.args.options.now.connection_timeout
    g.W.Read.LinkRead.read_told g.W.Write.LinkWrite.write_told
    c.args.addr.now (g.W.Reach.seen c.args.world.now) c.args.pool.now c.wanting.result
    (g.W.Reach.seen c.resolve.new.world) c.wanting.ensures
    (rw c.in-Err-NoMemory.field-0-is at c.in-Err-NoMemory.ensures.told)
