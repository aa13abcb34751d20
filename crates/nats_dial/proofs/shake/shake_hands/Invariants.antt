-- the handshake is still open, and its link gave and took what it heard and wrote
use Rattle.std.proofs.Common.{◌≡◌, ℕ, Bool, List}
use Rattle.nats_pool.specs.Auths.{auth_value}
use Rattle.nats_handshake.specs.Credentials.{SignerAnswers, AuthAnswers, Offers}
use Rattle.nats_handshake.specs.Heard.{IsOpen}
use Rattle.nats_dial.specs.Lines.{Looked, Line}
use Rattle.nats_dial.specs.Taking.{HasTook}
use Rattle.nats_dial.proofs.shake.shake_hands.Given as goal

abbrev pub invariant-exchanges : goal.invariant-exchanges
invariant-exchanges g l = record {
  looked : Looked (g.C.Clock.clock_told l.initial.clock) (g.C.Clock.clock_told l.clock);
  beside : g.C.Clock.beside_clock l.clock ≡ g.C.Clock.beside_clock l.initial.clock;
  line : (by_scheme : Bool) (start timeout : ℕ) (text wrote : List ℕ) → IsOpen l.initial.shaking.stage
      → Line (Offers SignerAnswers AuthAnswers l.options.signer l.options.auth_callback (auth_value l.options.auth))
      l.options.tls_required l.options.name l.options.no_echo by_scheme start timeout text wrote
      l.initial.shaking (g.R.LinkRead.read_told l.initial.read) (g.T.LinkWrite.write_told l.initial.write)
      → IsOpen l.shaking.stage × ((text : List ℕ) × (wrote : List ℕ)
      × Line (Offers SignerAnswers AuthAnswers l.options.signer l.options.auth_callback (auth_value l.options.auth))
      l.options.tls_required l.options.name l.options.no_echo by_scheme start timeout text wrote
      l.shaking (g.R.LinkRead.read_told l.read) (g.T.LinkWrite.write_told l.write));
  took : (p : _) → IsOpen l.initial.shaking.stage
      → HasTook g.P.ServerList.Takes l.initial.shaking.stage l.initial.shaking.skipped p l.initial.pool
      → IsOpen l.shaking.stage × HasTook g.P.ServerList.Takes l.shaking.stage l.shaking.skipped p l.pool;
}
