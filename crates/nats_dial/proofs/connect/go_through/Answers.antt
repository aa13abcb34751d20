-- Each server goes on to the whole.
use Rattle.std.proofs.Common.{◌∙◌, sym, ap, subst, Ok, Err}
use Rattle.url.specs.Parts.{Parts}
use Rattle.nats_pool.specs.Auths.{auth_value}
use Rattle.nats_pool.specs.declared.pool_parts.Next.TheVariants as next
use Rattle.nats_handshake.specs.Credentials.{SignerAnswers, AuthAnswers, Offers}
use Rattle.nats_handshake.specs.declared.error.ConnectErrorKind.{ConnectErrorKind}
use Rattle.nats_dial.specs.Tries.{Visits, ends_round, too_many}
use Rattle.nats_dial.proofs.Causing.{visited_told}
use Rattle.nats_dial.proofs.Going.{goes_over, goes_spent, goes_ends, goes_on, goes_less}
use Rattle.nats_dial.proofs.connect.go_through.Goals as goal

pub returns-in-Over-clause-goes : goal.returns-in-Over-clause-goes
returns-in-Over-clause-goes g c = c.servers.invariant.goes (Err c.servers.last) (g.W.Reach.seen c.servers.world) c.hand_out.new.self (
    goes_over g.P.ServerList.Takes g.P.Rounds.Counts g.P.Rounds.Hands g.P.Rounds.Begins g.P.Rounds.round_told
    (Offers SignerAnswers AuthAnswers c.args.options.now.signer c.args.options.now.auth_callback (auth_value c.args.options.now.auth))
    c.args.options.now.tls_required c.args.options.now.name c.args.options.now.no_echo c.args.options.now.connection_timeout
    g.W.Read.LinkRead.read_told g.W.Write.LinkWrite.write_told
    c.servers.last (g.W.Reach.seen c.servers.world) c.servers.pool c.hand_out.new.self c.in-Over.ensures.hands
    (g.met.P.Rounds.hands_round c.servers.pool c.hand_out.new.self next.Over c.in-Over.ensures.hands)
    )

pub returns-in-MaxReconnects-clause-goes : goal.returns-in-MaxReconnects-clause-goes
returns-in-MaxReconnects-clause-goes g c = rw c.too_many.ensures (
    c.servers.invariant.goes (Err too_many) (g.W.Reach.seen c.servers.world) c.hand_out.new.self (
    goes_spent g.P.ServerList.Takes g.P.Rounds.Counts g.P.Rounds.Hands g.P.Rounds.Begins g.P.Rounds.round_told
    (Offers SignerAnswers AuthAnswers c.args.options.now.signer c.args.options.now.auth_callback (auth_value c.args.options.now.auth))
    c.args.options.now.tls_required c.args.options.now.name c.args.options.now.no_echo c.args.options.now.connection_timeout
    g.W.Read.LinkRead.read_told g.W.Write.LinkWrite.write_told
    c.servers.last (g.W.Reach.seen c.servers.world) c.servers.pool c.hand_out.new.self c.in-MaxReconnects.ensures.hands
    (g.met.P.Rounds.hands_round c.servers.pool c.hand_out.new.self next.MaxReconnects c.in-MaxReconnects.ensures.hands)
    )
    )

pub returns-in-Ok-clause-goes : goal.returns-in-Ok-clause-goes
returns-in-Ok-clause-goes g c =
    c.servers.invariant.goes (Ok c.in-Ok.linked) (g.W.Reach.seen c.attempt_it.new.world) c.attempt_it.new.pool (
    goes_ends g.P.ServerList.Takes g.P.Rounds.Counts g.P.Rounds.Hands g.P.Rounds.Begins g.P.Rounds.round_told
    (Offers SignerAnswers AuthAnswers c.args.options.now.signer c.args.options.now.auth_callback (auth_value c.args.options.now.auth))
    c.args.options.now.tls_required c.args.options.now.name c.args.options.now.no_echo c.args.options.now.connection_timeout
    g.W.Read.LinkRead.read_told g.W.Write.LinkWrite.write_told
    c.servers.last (g.W.Reach.seen c.servers.world) c.servers.pool c.hand_out.new.self c.in-Try.attempt (Ok c.in-Ok.linked)
    (g.W.Reach.seen c.attempt_it.new.world) c.attempt_it.new.pool c.in-Try.ensures.hands
    (g.met.P.Rounds.hands_round c.servers.pool c.hand_out.new.self (next.Try c.in-Try.attempt) c.in-Try.ensures.hands)
    c.in-Ok.ensures.visits tt
    )

pub returns-then-ends_round-clause-goes : goal.returns-then-ends_round-clause-goes
returns-then-ends_round-clause-goes g c =
    c.servers.invariant.goes (Err c.in-Err.error) (g.W.Reach.seen c.attempt_it.new.world) c.attempt_it.new.pool (
    goes_ends g.P.ServerList.Takes g.P.Rounds.Counts g.P.Rounds.Hands g.P.Rounds.Begins g.P.Rounds.round_told
    (Offers SignerAnswers AuthAnswers c.args.options.now.signer c.args.options.now.auth_callback (auth_value c.args.options.now.auth))
    c.args.options.now.tls_required c.args.options.now.name c.args.options.now.no_echo c.args.options.now.connection_timeout
    g.W.Read.LinkRead.read_told g.W.Write.LinkWrite.write_told
    c.servers.last (g.W.Reach.seen c.servers.world) c.servers.pool c.hand_out.new.self c.in-Try.attempt (Err c.in-Err.error)
    (g.W.Reach.seen c.attempt_it.new.world) c.attempt_it.new.pool c.in-Try.ensures.hands
    (g.met.P.Rounds.hands_round c.servers.pool c.hand_out.new.self (next.Try c.in-Try.attempt) c.in-Try.ensures.hands)
    c.in-Err.ensures.visits
    (ap (λ (k : ConnectErrorKind). ends_round k) (sym c.kind.ensures) ∙ sym c.ends_round.ensures ∙ c.if-ends_round.true)
    )

pub servers-preserved : goal.servers-preserved
servers-preserved g c =
    let there = g.met.P.Rounds.hands_round c.servers.pool c.hand_out.new.self (next.Try c.in-Try.attempt) c.in-Try.ensures.hands in
    record {
      beside = c.in-Err.ensures.beside ∙ c.servers.invariant.beside;
      goes = λ result b q rest. c.servers.invariant.goes result b q (goes_on
          g.P.ServerList.Takes g.P.Rounds.Counts g.P.Rounds.Hands g.P.Rounds.Begins g.P.Rounds.round_told
          (Offers SignerAnswers AuthAnswers c.args.options.now.signer c.args.options.now.auth_callback (auth_value c.args.options.now.auth))
          c.args.options.now.tls_required c.args.options.now.name c.args.options.now.no_echo c.args.options.now.connection_timeout
          g.W.Read.LinkRead.read_told g.W.Write.LinkWrite.write_told
          c.servers.last (g.W.Reach.seen c.servers.world) c.servers.pool c.hand_out.new.self c.in-Try.attempt c.in-Err.error
          (g.W.Reach.seen c.attempt_it.new.world) c.attempt_it.new.pool result b q c.in-Try.ensures.hands there
          c.in-Err.ensures.visits
          (ap (λ (k : ConnectErrorKind). ends_round k) (sym c.kind.ensures) ∙ sym c.ends_round.ensures ∙ c.if-ends_round.false)
          (visited_told g.P.ServerList.Takes g.P.Rounds.Counts g.P.Rounds.Hands g.P.Rounds.Begins g.P.Rounds.round_told
          (Offers SignerAnswers AuthAnswers c.args.options.now.signer c.args.options.now.auth_callback (auth_value c.args.options.now.auth))
          c.args.options.now.tls_required c.args.options.now.name c.args.options.now.no_echo c.args.options.now.connection_timeout
          g.W.Read.LinkRead.read_told g.W.Write.LinkWrite.write_told
          g.met.P.Rounds.takes_round g.met.P.Rounds.counts_round
          there.0 c.in-Try.attempt.delay (g.W.Reach.seen c.servers.world) c.hand_out.new.self c.in-Err.error
          (g.W.Reach.seen c.attempt_it.new.world) c.attempt_it.new.pool
          (subst (λ (addr : Parts). Visits g.P.ServerList.Takes g.P.Rounds.Counts g.P.Rounds.Hands g.P.Rounds.Begins g.P.Rounds.round_told
          (Offers SignerAnswers AuthAnswers c.args.options.now.signer c.args.options.now.auth_callback (auth_value c.args.options.now.auth))
          c.args.options.now.tls_required c.args.options.now.name c.args.options.now.no_echo c.args.options.now.connection_timeout
          g.W.Read.LinkRead.read_told g.W.Write.LinkWrite.write_told
          addr c.in-Try.attempt.delay (g.W.Reach.seen c.servers.world) c.hand_out.new.self (Err c.in-Err.error)
          (g.W.Reach.seen c.attempt_it.new.world) c.attempt_it.new.pool) there.2 c.in-Err.ensures.visits)) rest);
    }

pub servers-smaller : goal.servers-smaller
servers-smaller g c =
    let there = g.met.P.Rounds.hands_round c.servers.pool c.hand_out.new.self (next.Try c.in-Try.attempt) c.in-Try.ensures.hands in
    goes_less g.P.ServerList.Takes g.P.Rounds.Counts g.P.Rounds.Hands g.P.Rounds.Begins g.P.Rounds.round_told
    (Offers SignerAnswers AuthAnswers c.args.options.now.signer c.args.options.now.auth_callback (auth_value c.args.options.now.auth))
    c.args.options.now.tls_required c.args.options.now.name c.args.options.now.no_echo c.args.options.now.connection_timeout
    g.W.Read.LinkRead.read_told g.W.Write.LinkWrite.write_told
    c.servers.pool c.hand_out.new.self c.attempt_it.new.pool c.in-Try.attempt there (visited_told g.P.ServerList.Takes g.P.Rounds.Counts g.P.Rounds.Hands g.P.Rounds.Begins g.P.Rounds.round_told
    (Offers SignerAnswers AuthAnswers c.args.options.now.signer c.args.options.now.auth_callback (auth_value c.args.options.now.auth))
    c.args.options.now.tls_required c.args.options.now.name c.args.options.now.no_echo c.args.options.now.connection_timeout
    g.W.Read.LinkRead.read_told g.W.Write.LinkWrite.write_told
    g.met.P.Rounds.takes_round g.met.P.Rounds.counts_round
    there.0 c.in-Try.attempt.delay (g.W.Reach.seen c.servers.world) c.hand_out.new.self c.in-Err.error
    (g.W.Reach.seen c.attempt_it.new.world) c.attempt_it.new.pool
    (subst (λ (addr : Parts). Visits g.P.ServerList.Takes g.P.Rounds.Counts g.P.Rounds.Hands g.P.Rounds.Begins g.P.Rounds.round_told
    (Offers SignerAnswers AuthAnswers c.args.options.now.signer c.args.options.now.auth_callback (auth_value c.args.options.now.auth))
    c.args.options.now.tls_required c.args.options.now.name c.args.options.now.no_echo c.args.options.now.connection_timeout
    g.W.Read.LinkRead.read_told g.W.Write.LinkWrite.write_told
    addr c.in-Try.attempt.delay (g.W.Reach.seen c.servers.world) c.hand_out.new.self (Err c.in-Err.error)
    (g.W.Reach.seen c.attempt_it.new.world) c.attempt_it.new.pool) there.2 c.in-Err.ensures.visits))
