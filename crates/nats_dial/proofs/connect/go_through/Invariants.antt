-- what is left leads to the whole
use Rattle.std.proofs.Common.{◌≡◌, length}
use Rattle.nats_pool.specs.Auths.{auth_value}
use Rattle.nats_outside.specs.Told.{Seen}
use Rattle.nats_handshake.specs.Credentials.{SignerAnswers, AuthAnswers, Offers}
use Rattle.nats_pool.specs.Handing.{left_of}
use Rattle.nats_dial.specs.Tries.{GoesThrough, all_failed}
use Rattle.nats_dial.proofs.connect.go_through.Given as goal

abbrev pub invariant-servers : goal.invariant-servers
invariant-servers g l = record {
  beside : g.W.Reach.beside_reach l.world ≡ g.W.Reach.beside_reach l.initial.world;
  goes : (result : _) (b : Seen) (q : _)
      → GoesThrough g.P.ServerList.Takes g.P.Rounds.Counts g.P.Rounds.Hands g.P.Rounds.Begins g.P.Rounds.round_told
      (Offers SignerAnswers AuthAnswers l.options.signer l.options.auth_callback (auth_value l.options.auth))
      l.options.tls_required l.options.name l.options.no_echo l.options.connection_timeout
      g.W.Read.LinkRead.read_told g.W.Write.LinkWrite.write_told
      (left_of (g.P.Rounds.round_told l.pool)) l.last (g.W.Reach.seen l.world) l.pool result b q
      → GoesThrough g.P.ServerList.Takes g.P.Rounds.Counts g.P.Rounds.Hands g.P.Rounds.Begins g.P.Rounds.round_told
      (Offers SignerAnswers AuthAnswers l.options.signer l.options.auth_callback (auth_value l.options.auth))
      l.options.tls_required l.options.name l.options.no_echo l.options.connection_timeout
      g.W.Read.LinkRead.read_told g.W.Write.LinkWrite.write_told
      (left_of (g.P.Rounds.round_told l.initial.pool)) all_failed (g.W.Reach.seen l.initial.world) l.initial.pool
      result b q;
}

abbrev pub decreases-servers : goal.decreases-servers
decreases-servers g l = length (left_of (g.P.Rounds.round_told l.pool))
