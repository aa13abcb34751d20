-- One read: what it gave was refused, or the answers were written.
use Rattle.std.proofs.Common.{◌≡◌, ap, sym, subst, take, Result, Ok, Err}
use Rattle.std.specs.Result.{IsErr, IsErrAnd}
use Rattle.std.proofs.lemmas.Result.{err_from_is_err_and}
use Rattle.nats_pool.specs.Auths.{auth_value}
use Rattle.nats_handshake.specs.Credentials.{SignerAnswers, AuthAnswers, Offers}
use Rattle.nats_outside.specs.Told.{ReadTold}
use Rattle.nats_handshake.specs.Errors.{Failure}
use Rattle.nats_handshake.specs.Shaking.{Talk, Feeds}
use Rattle.nats_dial.specs.Lines.{Exchanged}
use Rattle.nats_dial.proofs.Taking.{fed_took, fed_refused_took, took_in}
use Rattle.nats_dial.proofs.Exchanging.{line_fed, line_refused, line_silent, line_unwritten}
use Rattle.nats_dial.proofs.exchange.exchange.Goals as goal

err_by : {A : Type 0} (F : Result A Failure → Type 0) (e : Failure) (r : Result A Failure) → IsErr r
    → IsErrAnd r (λ x. x ≡ e) → F (Err e) → F r
err_by F e r is same f =
    let x = err_from_is_err_and r same in
    subst F (sym x.1) (subst (λ (z : Failure). F (Err z)) (sym x.2) f)

pub returns-in_err-count-clause-exchanged : goal.returns-in_err-count-clause-exchanged
returns-in_err-count-clause-exchanged g c = λ by_scheme start timeout text wrote going line.
    err_by (λ x. Exchanged g.P.ServerList.Takes
    (Offers SignerAnswers AuthAnswers c.args.options.now.signer c.args.options.now.auth_callback (auth_value c.args.options.now.auth))
    c.args.options.now.tls_required c.args.options.now.name c.args.options.now.no_echo by_scheme start timeout x
    c.read_in_time.new.shaking (g.R.LinkRead.read_told c.read_in_time.new.read) (g.T.LinkWrite.write_told c.args.write.now)
    (g.C.Clock.clock_told c.read_in_time.new.clock))
    c.in_err-count.field-0.0 c.from_residual.result c.from_residual.ensures.0 c.from_residual.ensures.1
    (line_silent g.P.ServerList.Takes
    (Offers SignerAnswers AuthAnswers c.args.options.now.signer c.args.options.now.auth_callback (auth_value c.args.options.now.auth))
    c.args.options.now.tls_required c.args.options.now.name c.args.options.now.no_echo by_scheme start timeout
    c.in_err-count.field-0.0 c.args.shaking.now (g.R.LinkRead.read_told c.args.read.now)
    (g.R.LinkRead.read_told c.read_in_time.new.read) (g.T.LinkWrite.write_told c.args.write.now)
    (g.C.Clock.clock_told c.read_in_time.new.clock) text wrote going line (c.in_err-count.ensures.reads going))

pub returns-in_err-write_out-in-Ok-clause-exchanged : goal.returns-in_err-write_out-in-Ok-clause-exchanged
returns-in_err-write_out-in-Ok-clause-exchanged g c = λ by_scheme start timeout text wrote going line.
    let reads = c.in_ok-count.ensures.reads in
    let next = g.R.LinkRead.read_told c.read_in_time.new.read in
    err_by (λ x. Exchanged g.P.ServerList.Takes
    (Offers SignerAnswers AuthAnswers c.args.options.now.signer c.args.options.now.auth_callback (auth_value c.args.options.now.auth))
    c.args.options.now.tls_required c.args.options.now.name c.args.options.now.no_echo by_scheme start timeout x
    c.write_out.new.shaking next (g.T.LinkWrite.write_told c.write_out.new.write)
    (g.C.Clock.clock_told c.read_in_time.new.clock))
    c.in_err-write_out-in-Ok.field-0.0 c.from_residual-in_err-write_out-in-Ok.result
    c.from_residual-in_err-write_out-in-Ok.ensures.0 c.from_residual-in_err-write_out-in-Ok.ensures.1
    (line_unwritten g.P.ServerList.Takes
    (Offers SignerAnswers AuthAnswers c.args.options.now.signer c.args.options.now.auth_callback (auth_value c.args.options.now.auth))
    c.args.options.now.tls_required c.args.options.now.name c.args.options.now.no_echo by_scheme start timeout
    c.in_err-write_out-in-Ok.field-0.0 c.args.shaking.now (g.R.LinkRead.read_told c.args.read.now) next
    (g.T.LinkWrite.write_told c.args.write.now) (g.T.LinkWrite.write_told c.write_out.new.write)
    (g.C.Clock.clock_told c.read_in_time.new.clock) reads.4.0 text wrote line (reads.3 going) reads.4.1
    (ap (λ (x : ReadTold). x.wait) reads.4.2) c.in_err-write_out-in-Ok.ensures)

pub returns-in-Err-clause-exchanged : goal.returns-in-Err-clause-exchanged
returns-in-Err-clause-exchanged g c = λ by_scheme start timeout text wrote going line.
    let reads = c.in_ok-count.ensures.reads in
    let next = g.R.LinkRead.read_told c.read_in_time.new.read in
    line_refused g.P.ServerList.Takes
    (Offers SignerAnswers AuthAnswers c.args.options.now.signer c.args.options.now.auth_callback (auth_value c.args.options.now.auth))
    c.args.options.now.tls_required c.args.options.now.name c.args.options.now.no_echo
    by_scheme start timeout c.args.pool.now c.feed.new.pool c.in-Err.error c.args.shaking.now c.feed.new.self
    (g.R.LinkRead.read_told c.args.read.now) next (g.T.LinkWrite.write_told c.args.write.now)
    (g.C.Clock.clock_told c.read_in_time.new.clock) reads.4.0 c.in_ok-count.count
    c.read_in_time.new.buf text wrote next.left going line reads.4.2 reads.2 (reads.3 going) reads.4.1
    (subst (λ (u : Talk). Feeds (g.P.ServerList.Takes c.args.pool.now c.feed.new.pool) (c.feed.new.pool ≡ c.args.pool.now)
    (Offers SignerAnswers AuthAnswers c.args.options.now.signer c.args.options.now.auth_callback (auth_value c.args.options.now.auth))
    c.args.options.now.tls_required c.args.options.now.name c.args.options.now.no_echo
    u (take c.in_ok-count.count c.read_in_time.new.buf) (Err c.in-Err.error) c.feed.new.self) reads.0 c.in-Err.ensures)

pub returns-in_ok-write_out-in-Ok-clause-exchanged : goal.returns-in_ok-write_out-in-Ok-clause-exchanged
returns-in_ok-write_out-in-Ok-clause-exchanged g c = λ by_scheme start timeout text wrote going line.
    let reads = c.in_ok-count.ensures.reads in
    let next = g.R.LinkRead.read_told c.read_in_time.new.read in
    line_fed g.P.ServerList.Takes
    (Offers SignerAnswers AuthAnswers c.args.options.now.signer c.args.options.now.auth_callback (auth_value c.args.options.now.auth))
    c.args.options.now.tls_required c.args.options.now.name c.args.options.now.no_echo
    by_scheme start timeout c.args.pool.now c.feed.new.pool c.in-Ok.shake c.args.shaking.now c.feed.new.self
    c.write_out.new.shaking (g.R.LinkRead.read_told c.args.read.now) next (g.T.LinkWrite.write_told c.args.write.now)
    (g.T.LinkWrite.write_told c.write_out.new.write) (g.C.Clock.clock_told c.read_in_time.new.clock) reads.4.0 c.in_ok-count.count
    c.read_in_time.new.buf text wrote next.left going line reads.4.2 reads.2 (reads.3 going) reads.4.1
    (subst (λ (u : Talk). Feeds (g.P.ServerList.Takes c.args.pool.now c.feed.new.pool) (c.feed.new.pool ≡ c.args.pool.now)
    (Offers SignerAnswers AuthAnswers c.args.options.now.signer c.args.options.now.auth_callback (auth_value c.args.options.now.auth))
    c.args.options.now.tls_required c.args.options.now.name c.args.options.now.no_echo
    u (take c.in_ok-count.count c.read_in_time.new.buf) (Ok c.in-Ok.shake) c.feed.new.self) reads.0 c.in-Ok.ensures)
    c.in_ok-write_out-in-Ok.ensures.0 c.in_ok-write_out-in-Ok.ensures.1

pub returns-in-Err-clause-took : goal.returns-in-Err-clause-took
returns-in-Err-clause-took g c = λ p going had.
    let reads = c.in_ok-count.ensures.reads in
    fed_refused_took g.P.ServerList.Takes
    (Offers SignerAnswers AuthAnswers c.args.options.now.signer c.args.options.now.auth_callback (auth_value c.args.options.now.auth))
    c.args.options.now.tls_required c.args.options.now.name c.args.options.now.no_echo
    p c.args.pool.now c.feed.new.pool c.args.shaking.now c.feed.new.self (take c.in_ok-count.count c.read_in_time.new.buf)
    c.in-Err.error going had
    (subst (λ (u : Talk). Feeds (g.P.ServerList.Takes c.args.pool.now c.feed.new.pool) (c.feed.new.pool ≡ c.args.pool.now)
    (Offers SignerAnswers AuthAnswers c.args.options.now.signer c.args.options.now.auth_callback (auth_value c.args.options.now.auth))
    c.args.options.now.tls_required c.args.options.now.name c.args.options.now.no_echo
    u (take c.in_ok-count.count c.read_in_time.new.buf) (Err c.in-Err.error) c.feed.new.self) reads.0 c.in-Err.ensures)

pub returns-in_ok-write_out-in-Ok-clause-took : goal.returns-in_ok-write_out-in-Ok-clause-took
returns-in_ok-write_out-in-Ok-clause-took g c = λ p going had.
    let reads = c.in_ok-count.ensures.reads in
    let fed = fed_took g.P.ServerList.Takes
    (Offers SignerAnswers AuthAnswers c.args.options.now.signer c.args.options.now.auth_callback (auth_value c.args.options.now.auth))
    c.args.options.now.tls_required c.args.options.now.name c.args.options.now.no_echo
    p c.args.pool.now c.feed.new.pool c.args.shaking.now c.feed.new.self (take c.in_ok-count.count c.read_in_time.new.buf)
    c.in-Ok.shake going had
    (subst (λ (u : Talk). Feeds (g.P.ServerList.Takes c.args.pool.now c.feed.new.pool) (c.feed.new.pool ≡ c.args.pool.now)
    (Offers SignerAnswers AuthAnswers c.args.options.now.signer c.args.options.now.auth_callback (auth_value c.args.options.now.auth))
    c.args.options.now.tls_required c.args.options.now.name c.args.options.now.no_echo
    u (take c.in_ok-count.count c.read_in_time.new.buf) (Ok c.in-Ok.shake) c.feed.new.self) reads.0 c.in-Ok.ensures)
    in rw c.in_ok-write_out-in-Ok.ensures.0 fed
