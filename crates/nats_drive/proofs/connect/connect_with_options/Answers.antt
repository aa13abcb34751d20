-- an address does not parse, or memory was wanting for them: the world is as it was
use Rattle.nats_pool.specs.Auths.{auth_value}
use Rattle.nats_handshake.specs.Credentials.{SignerAnswers, AuthAnswers, Offers}
use Rattle.nats_drive.proofs.Refusals.{parsing_connects}
use Rattle.nats_drive.proofs.connect.connect_with_options.Goals as goal

pub returns-in-Err : goal.returns-in-Err
returns-in-Err g c = let o = c.args.options in record {
  client = tt;
  refused = parsing_connects (Offers SignerAnswers AuthAnswers o.signer o.auth_callback (auth_value o.auth))
      o.tls_required o.name o.no_echo o.connection_timeout g.W.Reach.seen _ _ _ _ _ c.refuse.ensures
      c.in-Err.ensures.err;
}
