-- what is left leads to the whole
use Rattle.std.proofs.Common.{◌≡◌, drop}
use Rattle.nats_pool.specs.Auths.{auth_value}
use Rattle.nats_outside.specs.Told.{Seen}
use Rattle.nats_handshake.specs.Credentials.{SignerAnswers, AuthAnswers, Offers}
use Rattle.nats_dial.specs.Tries.{TriesEach, no_address}
use Rattle.nats_dial.proofs.server.try_each.Given as goal

abbrev pub invariant-addresses : goal.invariant-addresses
invariant-addresses g l = record {
  beside : g.W.Reach.beside_reach l.world ≡ g.W.Reach.beside_reach l.initial.world;
  tries : (result : _) (b : Seen) (q : _)
      → TriesEach g.P.ServerList.Takes g.P.Rounds.Counts g.P.Rounds.Hands g.P.Rounds.Begins g.P.Rounds.round_told
      (Offers SignerAnswers AuthAnswers l.options.signer l.options.auth_callback (auth_value l.options.auth))
      l.options.tls_required l.options.name l.options.no_echo l.options.connection_timeout
      g.W.Read.LinkRead.read_told g.W.Write.LinkWrite.write_told
      l.addr (drop l.to-index l.fn.addresses) l.last (g.W.Reach.seen l.world) l.pool result b q
      → TriesEach g.P.ServerList.Takes g.P.Rounds.Counts g.P.Rounds.Hands g.P.Rounds.Begins g.P.Rounds.round_told
      (Offers SignerAnswers AuthAnswers l.options.signer l.options.auth_callback (auth_value l.options.auth))
      l.options.tls_required l.options.name l.options.no_echo l.options.connection_timeout
      g.W.Read.LinkRead.read_told g.W.Write.LinkWrite.write_told
      l.addr l.fn.addresses no_address (g.W.Reach.seen l.initial.world) l.initial.pool result b q;
}
