-- A new handshake heard nothing and took nothing in; what it comes to then is what a link comes to.
use Rattle.std.proofs.Common.{◌≡◌, refl, sym, subst, inl, inr, [], Result, Err}
use Rattle.std.specs.Result.{IsErr, IsErrAnd}
use Rattle.std.proofs.lemmas.Result.{err_from_is_err_and}
use Rattle.nats_addr.specs.Addr.{is_tls}
use Rattle.nats_pool.specs.Auths.{auth_value}
use Rattle.nats_handshake.specs.Credentials.{SignerAnswers, AuthAnswers, Offers}
use Rattle.nats_handshake.specs.Errors.{Failure}
use Rattle.nats_handshake.specs.Heard.{IsOpen}
use Rattle.nats_handshake.specs.Shaking.{Talk}
use Rattle.nats_dial.specs.Taking.{HasTook}
use Rattle.nats_dial.specs.Greets.{Greets}
use Rattle.nats_dial.proofs.Greeting.{fresh_line, greeted}
use Rattle.nats_dial.proofs.greet.greet.Goals as goal

err_by : {A : Type 0} (F : Result A Failure → Type 0) (e : Failure) (r : Result A Failure) → IsErr r
    → IsErrAnd r (λ x. x ≡ e) → F (Err e) → F r
err_by F e r is same f =
    let x = err_from_is_err_and r same in
    subst F (sym x.1) (subst (λ (z : Failure). F (Err z)) (sym x.2) f)

pub returns-in_err-shaking-clause-greets : goal.returns-in_err-shaking-clause-greets
returns-in_err-shaking-clause-greets g c = λ fresh. err_by (λ x. Greets g.P.ServerList.Takes
    (Offers SignerAnswers AuthAnswers c.args.options.now.signer c.args.options.now.auth_callback (auth_value c.args.options.now.auth))
    c.args.options.now.tls_required c.args.options.now.name c.args.options.now.no_echo c.args.options.now.connection_timeout
    c.args.addr.now c.args.start c.args.pool.now x (g.R.LinkRead.read_told c.args.read.now) (g.T.LinkWrite.write_told c.args.write.now) (g.C.Clock.clock_told c.args.clock.now) c.args.pool.now)
    c.in_err-shaking.field-0.0 c.from_residual.result c.from_residual.ensures.0 c.from_residual.ensures.1
    (inl c.in_err-shaking.ensures, inl refl)

pub returns-in_err-shake_hands-clause-greets : goal.returns-in_err-shake_hands-clause-greets
returns-in_err-shake_hands-clause-greets g c = λ fresh.
    let going = subst (λ (t : Talk). IsOpen t.stage) (sym c.in_ok-shaking.ensures) tt in
    let had = subst (λ (t : Talk). HasTook g.P.ServerList.Takes t.stage t.skipped c.args.pool.now c.args.pool.now)
    (sym c.in_ok-shaking.ensures) refl in
    let line = fresh_line
    (Offers SignerAnswers AuthAnswers c.args.options.now.signer c.args.options.now.auth_callback (auth_value c.args.options.now.auth))
    c.args.options.now.tls_required c.args.options.now.name c.args.options.now.no_echo c.args.addr.now c.args.options.now.connection_timeout c.args.start
    c.in_ok-shaking.shaking (g.R.LinkRead.read_told c.args.read.now) (g.T.LinkWrite.write_told c.args.write.now)
    c.in_ok-shaking.ensures fresh in
    err_by (λ x. Greets g.P.ServerList.Takes
    (Offers SignerAnswers AuthAnswers c.args.options.now.signer c.args.options.now.auth_callback (auth_value c.args.options.now.auth))
    c.args.options.now.tls_required c.args.options.now.name c.args.options.now.no_echo c.args.options.now.connection_timeout
    c.args.addr.now c.args.start c.args.pool.now x (g.R.LinkRead.read_told c.shake_hands.new.read) (g.T.LinkWrite.write_told c.shake_hands.new.write) (g.C.Clock.clock_told c.shake_hands.new.clock) c.shake_hands.new.pool)
    c.in_err-shake_hands.field-0.0 c.from_residual-in_err-shake_hands.result
    c.from_residual-in_err-shake_hands.ensures.0 c.from_residual-in_err-shake_hands.ensures.1 (
      inr (c.in_err-shake_hands.ensures.shaken (is_tls c.args.addr.now) c.args.start c.args.options.now.connection_timeout [] [] going line),
      c.in_err-shake_hands.ensures.took c.args.pool.now going had,
    )

pub returns-clause-greets : goal.returns-clause-greets
returns-clause-greets g c = λ fresh.
    let going = subst (λ (t : Talk). IsOpen t.stage) (sym c.in_ok-shaking.ensures) tt in
    let had = subst (λ (t : Talk). HasTook g.P.ServerList.Takes t.stage t.skipped c.args.pool.now c.args.pool.now)
    (sym c.in_ok-shaking.ensures) refl in
    let line = fresh_line
    (Offers SignerAnswers AuthAnswers c.args.options.now.signer c.args.options.now.auth_callback (auth_value c.args.options.now.auth))
    c.args.options.now.tls_required c.args.options.now.name c.args.options.now.no_echo c.args.addr.now c.args.options.now.connection_timeout c.args.start
    c.in_ok-shaking.shaking (g.R.LinkRead.read_told c.args.read.now) (g.T.LinkWrite.write_told c.args.write.now)
    c.in_ok-shaking.ensures fresh in
    let shaken = c.in_ok-shake_hands.ensures.shaken (is_tls c.args.addr.now) c.args.start c.args.options.now.connection_timeout
    [] [] going line in
    let took = c.in_ok-shake_hands.ensures.took c.args.pool.now going had in
    greeted g.P.ServerList.Takes
    (Offers SignerAnswers AuthAnswers c.args.options.now.signer c.args.options.now.auth_callback (auth_value c.args.options.now.auth))
    c.args.options.now.tls_required c.args.options.now.name c.args.options.now.no_echo c.args.options.now.connection_timeout
    c.args.addr.now c.args.start shaken.1.0 shaken.1.1 c.shake_hands.new.shaking
    (g.R.LinkRead.read_told c.shake_hands.new.read) (g.T.LinkWrite.write_told c.shake_hands.new.write)
    (g.C.Clock.clock_told c.shake_hands.new.clock) c.args.pool.now c.shake_hands.new.pool c.finished.result
    shaken.0 shaken.1.2 shaken.1.3 shaken.1.4 took.1 c.finished.ensures
