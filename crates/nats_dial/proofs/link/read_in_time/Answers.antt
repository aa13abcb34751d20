-- What a bounded read between two looks at the clock comes to.
use Rattle.std.proofs.Common.{◌≡◌, subst, sym, inl, ℕ, ◌<◌, Result, Err}
use Rattle.std.specs.Result.{IsErr, IsErrAnd}
use Rattle.std.proofs.lemmas.Result.{err_from_is_err_and}
use Rattle.nats_handshake.specs.Errors.{Failure}
use Rattle.nats_dial.specs.Lines.{ReadsInTime}
use Rattle.nats_dial.proofs.Reading.{heard_in_time, late_in_time}
use Rattle.nats_dial.proofs.link.read_in_time.Goals as goal

err_by : {A : Type 0} (F : Result A Failure → Type 0) (e : Failure) (r : Result A Failure) → IsErr r
    → IsErrAnd r (λ x. x ≡ e) → F (Err e) → F r
err_by F e r is same f =
    let x = err_from_is_err_and r same in
    subst F (sym x.1) (subst (λ (z : Failure). F (Err z)) (sym x.2) f)

pub returns-in_err-ms-clause-reads : goal.returns-in_err-ms-clause-reads
returns-in_err-ms-clause-reads g c = err_by (λ x. ReadsInTime c.args.buf.now c.args.shaking.now x c.in_time.new.shaking
    (g.R.LinkRead.read_told c.args.read.now) (g.R.LinkRead.read_told c.args.read.now) (g.C.Clock.clock_told c.in_time.new.clock))
    c.in_err-ms.field-0.0 c.from_residual.result c.from_residual.ensures.0 c.from_residual.ensures.1
    (λ going. inl (c.in_err-ms.ensures.looks going))

pub returns-in_err-in_time-clause-reads : goal.returns-in_err-in_time-clause-reads
returns-in_err-in_time-clause-reads g c = err_by (λ x. ReadsInTime c.read_within-given.new.buf c.args.shaking.now x c.in_time-2.new.shaking
    (g.R.LinkRead.read_told c.args.read.now) (g.R.LinkRead.read_told c.read_within-given.new.read)
    (g.C.Clock.clock_told c.in_time-2.new.clock))
    c.in_err-in_time.field-0.0 c.from_residual-in_err-in_time.result c.from_residual-in_err-in_time.ensures.0
    c.from_residual-in_err-in_time.ensures.1
    (λ going. inl (late_in_time c.args.shaking.now c.in_time.new.shaking c.in_time-2.new.shaking c.in_err-in_time.field-0.0
    c.in_ok-ms.ms (g.C.Clock.clock_told c.in_time.new.clock) (g.C.Clock.clock_told c.in_time-2.new.clock)
    c.in_ok-ms.ensures.looks c.in_err-in_time.ensures.looks going))

pub returns-clause-reads : goal.returns-clause-reads
returns-clause-reads g c = heard_in_time c.read_within-given.new.buf c.args.shaking.now c.in_time.new.shaking c.in_time-2.new.shaking
    c.heard.new.shaking c.read_within-given.result c.heard.result
    (g.R.LinkRead.read_told c.args.read.now) (g.R.LinkRead.read_told c.read_within-given.new.read)
    c.in_ok-ms.ms c.in_ok-in_time.field-0 (g.C.Clock.clock_told c.in_time.new.clock) (g.C.Clock.clock_told c.in_time-2.new.clock)
    (subst (λ (n : ℕ). 0 < n) (sym c.read_within-given.ensures.len) c.requires)
    c.in_ok-ms.ensures.looks c.read_within-given.ensures.bound c.read_within-given.ensures.told c.in_ok-in_time.ensures.looks
    c.heard.ensures
