-- What comes of the first thing that the server says.
use Rattle.std.proofs.Common.{◌≡◌, refl, ◌∙◌, sym, inl, Ok, Err}
use Rattle.nats_pool.specs.Auths.{auth_value}
use Rattle.nats_lines.specs.Operations.{front}
use Rattle.nats_handshake.specs.declared.course.Greeting.TheVariants as greeting
use Rattle.nats_handshake.specs.declared.stage.Shake.TheVariants as shake
use Rattle.nats_handshake.specs.Course.{greeting_at}
use Rattle.nats_handshake.specs.Credentials.{SignerAnswers, AuthAnswers, Offers}
use Rattle.nats_handshake.proofs.Shakings.{hears_at, hears_entered, repelled_wanting}
use Rattle.nats_handshake.proofs.handshake.Handshake.greet.Goals as goal

pub enter-requires : goal.enter-requires
enter-requires g c = rw c.in-Ok-Greets.field-0-is at c.in-Ok-Greets.ensures.fits

pub returns-in-Ok-Waits : goal.returns-in-Ok-Waits
returns-in-Ok-Waits g c = hears_at (g.P.ServerList.Takes c.args.pool.now c.args.pool.now) (c.args.pool.now ≡ c.args.pool.now)
    (Offers SignerAnswers AuthAnswers c.args.options.now.signer c.args.options.now.auth_callback (auth_value c.args.options.now.auth))
    c.args.options.now.tls_required c.args.options.now.name c.args.options.now.no_echo
    greeting.Waits (greeting_at (front c.args.self.now.unread)) c.args.self.now c.args.self.now (Ok shake.More)
    (sym c.in-Ok-Waits.field-0-is ∙ c.in-Ok-Waits.ensures.says) (refl, refl, refl)

pub returns-in-Ok-Refuses : goal.returns-in-Ok-Refuses
returns-in-Ok-Refuses g c = hears_at (g.P.ServerList.Takes c.args.pool.now c.args.pool.now) (c.args.pool.now ≡ c.args.pool.now)
    (Offers SignerAnswers AuthAnswers c.args.options.now.signer c.args.options.now.auth_callback (auth_value c.args.options.now.auth))
    c.args.options.now.tls_required c.args.options.now.name c.args.options.now.no_echo
    (greeting.Refuses c.in-Ok-Refuses.refusal) (greeting_at (front c.args.self.now.unread)) c.args.self.now c.args.self.now (Err c.in-Ok-Refuses.refusal)
    (sym c.in-Ok-Refuses.field-0-is ∙ c.in-Ok-Refuses.ensures.says) ((refl, inl refl), refl)

pub returns-in-Ok : goal.returns-in-Ok
returns-in-Ok g c = hears_entered (g.P.ServerList.Takes c.args.pool.now c.welcome.new.pool) (c.welcome.new.pool ≡ c.args.pool.now)
    (Offers SignerAnswers AuthAnswers c.args.options.now.signer c.args.options.now.auth_callback (auth_value c.args.options.now.auth))
    c.args.options.now.tls_required c.args.options.now.name c.args.options.now.no_echo
    (greeting_at (front c.args.self.now.unread)) c.in-Ok-Greets.info c.in-Ok-Greets.len c.in-Ok.ensures.0 c.args.self.now c.enter.new.self c.in-Ok.out.items
    c.in-Ok.skipped.items c.enter.result (sym c.in-Ok-Greets.ensures.says ∙ c.in-Ok-Greets.field-0-is)
    (rw c.wants_tls.ensures at c.in-Ok.ensures.1) c.in-Ok.ensures.2 c.enter.ensures

pub returns-in-Err-welcome : goal.returns-in-Err-welcome
returns-in-Err-welcome g c = hears_at (g.P.ServerList.Takes c.args.pool.now c.welcome.new.pool) (c.welcome.new.pool ≡ c.args.pool.now)
    (Offers SignerAnswers AuthAnswers c.args.options.now.signer c.args.options.now.auth_callback (auth_value c.args.options.now.auth))
    c.args.options.now.tls_required c.args.options.now.name c.args.options.now.no_echo
    (greeting.Greets c.in-Ok-Greets.info c.in-Ok-Greets.len) (greeting_at (front c.args.self.now.unread)) c.args.self.now c.args.self.now (Err c.in-Err-welcome.refusal)
    (sym c.in-Ok-Greets.field-0-is ∙ c.in-Ok-Greets.ensures.says)
    (inl (rw c.wants_tls.ensures at c.in-Err-welcome.ensures), refl)

pub returns-in-Err : goal.returns-in-Err
returns-in-Err g c = rw c.new.ensures (
  repelled_wanting (g.P.ServerList.Takes c.args.pool.now c.args.pool.now) (c.args.pool.now ≡ c.args.pool.now)
      (Offers SignerAnswers AuthAnswers c.args.options.now.signer c.args.options.now.auth_callback (auth_value c.args.options.now.auth))
      c.args.options.now.tls_required c.args.options.now.name c.args.options.now.no_echo
      (greeting_at (front c.args.self.now.unread)) c.args.self.now refl,
  refl,
)
