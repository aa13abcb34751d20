-- Each try goes on to the whole.
use Rattle.std.proofs.Common.{◌∙◌, sym, ap, Ok, Err}
use Rattle.nats_pool.specs.Auths.{auth_value}
use Rattle.nats_handshake.specs.Credentials.{SignerAnswers, AuthAnswers, Offers}
use Rattle.nats_handshake.specs.declared.error.ConnectErrorKind.{ConnectErrorKind}
use Rattle.nats_dial.specs.Tries.{ends_round}
use Rattle.nats_dial.proofs.Going.{each_ends, each_on, each_over}
use Rattle.nats_dial.proofs.server.try_each.Goals as goal

pub returns-in-Ok-clause-tries : goal.returns-in-Ok-clause-tries
returns-in-Ok-clause-tries g c =
    c.addresses.invariant.tries (Ok c.in-Ok.linked) (g.W.Reach.seen c.try_address.new.world) c.try_address.new.pool (each_ends
    g.P.ServerList.Takes g.P.Rounds.Counts g.P.Rounds.Hands g.P.Rounds.Begins g.P.Rounds.round_told
    (Offers SignerAnswers AuthAnswers c.args.options.now.signer c.args.options.now.auth_callback (auth_value c.args.options.now.auth))
    c.args.options.now.tls_required c.args.options.now.name c.args.options.now.no_echo c.args.options.now.connection_timeout
    g.W.Read.LinkRead.read_told g.W.Write.LinkWrite.write_told
    c.args.addr.now c.args.addresses.now c.addresses.to-index _ c.addresses.last (g.W.Reach.seen c.addresses.world) c.addresses.pool
    (Ok c.in-Ok.linked) (g.W.Reach.seen c.try_address.new.world) c.try_address.new.pool c.addresses-test.true
    c.in-Ok.ensures.tries tt)

pub returns-then-ends_round-clause-tries : goal.returns-then-ends_round-clause-tries
returns-then-ends_round-clause-tries g c =
    c.addresses.invariant.tries (Err c.in-Err.error) (g.W.Reach.seen c.try_address.new.world) c.try_address.new.pool (each_ends
    g.P.ServerList.Takes g.P.Rounds.Counts g.P.Rounds.Hands g.P.Rounds.Begins g.P.Rounds.round_told
    (Offers SignerAnswers AuthAnswers c.args.options.now.signer c.args.options.now.auth_callback (auth_value c.args.options.now.auth))
    c.args.options.now.tls_required c.args.options.now.name c.args.options.now.no_echo c.args.options.now.connection_timeout
    g.W.Read.LinkRead.read_told g.W.Write.LinkWrite.write_told
    c.args.addr.now c.args.addresses.now c.addresses.to-index _ c.addresses.last (g.W.Reach.seen c.addresses.world) c.addresses.pool
    (Err c.in-Err.error) (g.W.Reach.seen c.try_address.new.world) c.try_address.new.pool c.addresses-test.true
    c.in-Err.ensures.tries
    (ap (λ (k : ConnectErrorKind). ends_round k) (sym c.kind.ensures) ∙ sym c.ends_round.ensures ∙ c.if-ends_round.true))

pub addresses-preserved : goal.addresses-preserved
addresses-preserved g c = record {
  beside = c.in-Err.ensures.beside ∙ c.addresses.invariant.beside;
  tries = λ result b q rest. c.addresses.invariant.tries result b q (each_on
      g.P.ServerList.Takes g.P.Rounds.Counts g.P.Rounds.Hands g.P.Rounds.Begins g.P.Rounds.round_told
      (Offers SignerAnswers AuthAnswers c.args.options.now.signer c.args.options.now.auth_callback (auth_value c.args.options.now.auth))
      c.args.options.now.tls_required c.args.options.now.name c.args.options.now.no_echo c.args.options.now.connection_timeout
      g.W.Read.LinkRead.read_told g.W.Write.LinkWrite.write_told
      c.args.addr.now c.args.addresses.now c.addresses.to-index _ c.addresses.last
      (g.W.Reach.seen c.addresses.world) c.addresses.pool c.in-Err.error (g.W.Reach.seen c.try_address.new.world) c.try_address.new.pool
      result b q c.addresses-test.true c.in-Err.ensures.tries
      (ap (λ (k : ConnectErrorKind). ends_round k) (sym c.kind.ensures) ∙ sym c.ends_round.ensures ∙ c.if-ends_round.false) rest);
}

pub returns-clause-tries : goal.returns-clause-tries
returns-clause-tries g c = c.addresses.invariant.tries (Err c.addresses.last) (g.W.Reach.seen c.addresses.world) c.addresses.pool (each_over
    g.P.ServerList.Takes g.P.Rounds.Counts g.P.Rounds.Hands g.P.Rounds.Begins g.P.Rounds.round_told
    (Offers SignerAnswers AuthAnswers c.args.options.now.signer c.args.options.now.auth_callback (auth_value c.args.options.now.auth))
    c.args.options.now.tls_required c.args.options.now.name c.args.options.now.no_echo c.args.options.now.connection_timeout
    g.W.Read.LinkRead.read_told g.W.Write.LinkWrite.write_told
    c.args.addr.now c.args.addresses.now c.addresses.to-index c.addresses.last
    (g.W.Reach.seen c.addresses.world) c.addresses.pool c.addresses-test.false)
