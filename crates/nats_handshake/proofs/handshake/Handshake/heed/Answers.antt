-- What comes of the bytes that are there, by how far the handshake came.
use Rattle.std.proofs.Common.{◌≡◌, refl, ◌∙◌, sym, ap, Ok, Err}
use Rattle.nats_pool.specs.Auths.{auth_value}
use Rattle.nats_handshake.specs.Credentials.{SignerAnswers, AuthAnswers, Offers}
use Rattle.nats_handshake.specs.declared.stage.Stage.{Stage}
use Rattle.nats_handshake.specs.declared.stage.Stage.TheVariants as stage
use Rattle.nats_handshake.specs.declared.stage.Shake.TheVariants as shake
use Rattle.nats_handshake.specs.Shaking.{Talk}
use Rattle.nats_handshake.proofs.Shakings.{heeds_at, heeds_on}
use Rattle.nats_handshake.proofs.handshake.Handshake.heed.Goals as goal

abbrev stage_in : Talk → Stage
stage_in t = t.stage

pub same-self : goal.same-self
same-self g c = refl

pub same-self-in-Asks : goal.same-self-in-Asks
same-self-in-Asks g c = refl

pub same-self-in-Linked : goal.same-self-in-Linked
same-self-in-Linked g c = refl

pub same-self-in-Refused : goal.same-self-in-Refused
same-self-in-Refused g c = refl

pub returns-in-Greets : goal.returns-in-Greets
returns-in-Greets g c = heeds_at (g.P.ServerList.Takes c.args.pool.now c.greet.new.pool) (c.greet.new.pool ≡ c.args.pool.now)
    (Offers SignerAnswers AuthAnswers c.args.options.now.signer c.args.options.now.auth_callback (auth_value c.args.options.now.auth))
    c.args.options.now.tls_required c.args.options.now.name c.args.options.now.no_echo
    stage.Greets c.args.self.now.stage c.args.self.now c.greet.new.self c.greet.result
    (sym c.in-Greets.is ∙ ap stage_in c.self.view_is) c.greet.ensures

pub returns-in-Asks : goal.returns-in-Asks
returns-in-Asks g c = heeds_at (g.P.ServerList.Takes c.args.pool.now c.args.pool.now) (c.args.pool.now ≡ c.args.pool.now)
    (Offers SignerAnswers AuthAnswers c.args.options.now.signer c.args.options.now.auth_callback (auth_value c.args.options.now.auth))
    c.args.options.now.tls_required c.args.options.now.name c.args.options.now.no_echo
    (stage.Asks c.in-Asks.info c.in-Asks.left) c.args.self.now.stage c.args.self.now c.go_on.new.self c.go_on.result
    (sym c.in-Asks.is ∙ ap stage_in c.self.view_is)
    (heeds_on (g.P.ServerList.Takes c.args.pool.now c.args.pool.now) (c.args.pool.now ≡ c.args.pool.now)
    (Offers SignerAnswers AuthAnswers c.args.options.now.signer c.args.options.now.auth_callback (auth_value c.args.options.now.auth))
    c.args.options.now.tls_required c.args.options.now.name c.args.options.now.no_echo
    c.in-Asks.info c.in-Asks.left c.args.self.now c.go_on.new.self c.go_on.result
    (sym (sym c.in-Asks.is ∙ ap stage_in c.self.view_is)) refl c.go_on.ensures)

pub returns-in-Linked : goal.returns-in-Linked
returns-in-Linked g c = heeds_at (g.P.ServerList.Takes c.args.pool.now c.args.pool.now) (c.args.pool.now ≡ c.args.pool.now)
    (Offers SignerAnswers AuthAnswers c.args.options.now.signer c.args.options.now.auth_callback (auth_value c.args.options.now.auth))
    c.args.options.now.tls_required c.args.options.now.name c.args.options.now.no_echo
    (stage.Linked c.in-Linked.info) c.args.self.now.stage c.args.self.now c.args.self.now (Ok shake.Done)
    (sym c.in-Linked.is ∙ ap stage_in c.self.view_is) (refl, (refl, refl))

pub returns-in-Refused : goal.returns-in-Refused
returns-in-Refused g c = heeds_at (g.P.ServerList.Takes c.args.pool.now c.args.pool.now) (c.args.pool.now ≡ c.args.pool.now)
    (Offers SignerAnswers AuthAnswers c.args.options.now.signer c.args.options.now.auth_callback (auth_value c.args.options.now.auth))
    c.args.options.now.tls_required c.args.options.now.name c.args.options.now.no_echo
    (stage.Refused c.in-Refused.kind) c.args.self.now.stage c.args.self.now c.args.self.now (Err c.new.result)
    (sym c.in-Refused.is ∙ ap stage_in c.self.view_is) refl
