-- what the round tells of its pool is left out
use Rattle.nats_pool.specs.Auths.{auth_value}
use Rattle.nats_handshake.specs.Credentials.{SignerAnswers, AuthAnswers, Offers}
use Rattle.nats_start.proofs.Rounding.{round_failed}
use Rattle.nats_start.proofs.stages.one_round.Goals as goal

pub returns-clause-refused : goal.returns-clause-refused
returns-clause-refused g c = let o = c.args.options.now in
    round_failed g.Q.ServerList.Takes (Offers SignerAnswers AuthAnswers o.signer o.auth_callback (auth_value o.auth))
    o.tls_required o.name o.no_echo o.connection_timeout _ _ _ _ _ c.in-Err.ensures.failed
