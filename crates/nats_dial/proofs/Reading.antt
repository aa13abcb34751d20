-- A bounded read between two looks at the clock.
use Rattle.std.proofs.Common.{◌≡◌, refl, ◌∙◌, sym, ap, subst, inl, inr, ℕ, zero, suc, ◌+◌, ◌<◌, ◌≤◌, arith, Bool, true, false, List, [], ◌∷◌, length, Option, Some, None, Result, Ok, Err, leb-false, leb-true}
use Rattle.std.specs.Io.{ReadsAtMost}
use Rattle.nats_names.specs.declared.failed.Failed.{Failed}
use Rattle.nats_addr.specs.Resolving.{risen}
use Rattle.nats_outside.specs.Told.{ReadTold, ClockTold, read_of, bounded, ends_met}
use Rattle.nats_handshake.specs.declared.error.ConnectErrorKind.TheVariants as kind
use Rattle.nats_handshake.specs.declared.stage.Stage.{Stage}
use Rattle.nats_handshake.specs.declared.stage.Stage.TheVariants as stage
use Rattle.nats_handshake.specs.Course.{io}
use Rattle.nats_handshake.specs.Errors.{Failure}
use Rattle.nats_handshake.specs.Shaking.{Talk, is_late, ExpiresOpen, ExpiresAt, Expires, left_at, end_cause}
use Rattle.nats_handshake.specs.Heard.{IsOpen}
use Rattle.nats_dial.specs.Lines.{InTime, IsOver, Looks, Hears, ReadsInTime}

-- ---- a look at the clock

looks_open : (late : Bool) (t new : Talk) (now : ℕ) → is_late t now ≡ late → ExpiresOpen late t (Ok tt) new
    → (new ≡ t) × (now < t.start + t.timeout)
looks_open true t new now is (e, after) = cc
looks_open false t new now is (done, same) = (same, leb-false (t.start + t.timeout) now is)

looks_at : (at : Stage) (t new : Talk) (now : ℕ) → ExpiresAt at now t (Ok tt) new
    → (new ≡ t) × (IsOpen at → now < t.start + t.timeout)
looks_at (stage.Refused kind) t new now (e, same) = cc
looks_at (stage.Linked info) t new now (done, same) = (same, λ going. absurd going)
looks_at stage.Greets t new now e = let l = looks_open (is_late t now) t new now refl e in (l.0, λ going. l.1)
looks_at (stage.Asks info left) t new now e = let l = looks_open (is_late t now) t new now refl e in (l.0, λ going. l.1)

-- the time isn't over
pub looks_in_time : (t new : Talk) (now ms : ℕ) (c : ClockTold) → now ≡ c.last → Expires now t (Ok tt) new
    → ms ≡ left_at new now → Looks t (Ok ms) new c
looks_in_time t new now ms c last expires left =
    let l = looks_at t.stage t new now expires in (
      l.0,
      omega (arith, left, ap (λ (u : Talk). u.timeout) l.0),
      λ going. omega (arith, l.1 going, last),
    )

abbrev err_of : Failure → Result (Unit {0}) Failure → Failure
err_of d (Ok done) = d
err_of d (Err e) = e

late_open : (late : Bool) (t new : Talk) (now : ℕ) (e : Failure) → is_late t now ≡ late → ExpiresOpen late t (Err e) new
    → (e ≡ (kind.TimedOut, None)) × (t.start + t.timeout ≤ now)
late_open true t new now e is (why, after) = (ap (err_of e) why, leb-true (t.start + t.timeout) now is)
late_open false t new now e is (why, same) = cc

late_at : (at : Stage) (t new : Talk) (now : ℕ) (e : Failure) → IsOpen at → ExpiresAt at now t (Err e) new
    → (e ≡ (kind.TimedOut, None)) × (t.start + t.timeout ≤ now)
late_at (stage.Refused kind) t new now e going x = absurd going
late_at (stage.Linked info) t new now e going x = absurd going
late_at stage.Greets t new now e going x = late_open (is_late t now) t new now e refl x
late_at (stage.Asks info left) t new now e going x = late_open (is_late t now) t new now e refl x

-- it is
pub looks_over : (t new : Talk) (now : ℕ) (c : ClockTold) (e : Failure) → now ≡ c.last → Expires now t (Err e) new
    → Looks t (Err e) new c
looks_over t new now c e last expires = λ going.
    let l = late_at t.stage t new now e going expires in (l.0, omega (arith, l.1, last))

-- ---- a read between two looks

some_room : (buf : List ℕ) (ends : ℕ) → 0 < length buf → 1 ≤ risen (ends_met 0 buf) ends
some_room [] ends room = absurd (omega (arith, room))
some_room (x ∷ buf) ends room = omega arith

-- the answer, by what became of the read
pub heard_in_time : (buf : List ℕ) (old first second new : Talk) (given : Result ℕ Failed) (result : Result ℕ Failure)
    (r after : ReadTold) (ms left : ℕ) (c d : ClockTold) → 0 < length buf → Looks old (Ok ms) first c
    → ReadsAtMost given buf → after ≡ read_of given buf after.left (bounded (Some ms) r) → Looks first (Ok left) second d
    → Hears second given result new → ReadsInTime buf old result new r after d
heard_in_time buf old first second new (Ok zero) result r after ms left c d room (same, most, in_time) bound told
    (stays, less, over) is =
    rw is (λ going. inr (
      subst (λ (t : Talk). InTime t.start t.timeout d) same (over (subst (λ (t : Talk). IsOpen t.stage) (sym same) going)),
      (ms, most, ap (λ (x : ReadTold). x.wait) told),
      ap (λ (x : ReadTold). x.pieces) told,
      inr (
        ap (λ (t : Talk). io (end_cause t.stage)) (stays ∙ same),
        subst (λ (n : ℕ). 1 ≤ n) (sym (ap (λ (x : ReadTold). x.ends) told)) (some_room buf r.ends room),
      ),
    ))
heard_in_time buf old first second new (Ok (suc n)) result r after ms left c d room (same, most, in_time) bound told
    (stays, less, over) (is, kept) =
    rw is (
      kept ∙ (stays ∙ same),
      bound.0,
      omega arith,
      λ going. subst (λ (t : Talk). InTime t.start t.timeout d) same
          (over (subst (λ (t : Talk). IsOpen t.stage) (sym same) going)),
      (ms, most, told),
    )
heard_in_time buf old first second new (Err f) result r after ms left c d room (same, most, in_time) bound told
    (stays, less, over) is =
    rw is (λ going. inr (
      subst (λ (t : Talk). InTime t.start t.timeout d) same (over (subst (λ (t : Talk). IsOpen t.stage) (sym same) going)),
      (ms, most, ap (λ (x : ReadTold). x.wait) told),
      ap (λ (x : ReadTold). x.pieces) told,
      inl (refl, omega (arith, ap (λ (x : ReadTold). x.faults) told)),
    ))

-- the time was over at the second look
pub late_in_time : (old first second : Talk) (e : Failure) (ms : ℕ) (c d : ClockTold) → Looks old (Ok ms) first c
    → Looks first (Err e) second d → IsOpen old.stage → (e ≡ (kind.TimedOut, None)) × IsOver old.start old.timeout d
late_in_time old first second e ms c d (same, most, in_time) over going =
    subst (λ (t : Talk). (e ≡ (kind.TimedOut, None)) × IsOver t.start t.timeout d) same
    (over (subst (λ (t : Talk). IsOpen t.stage) (sym same) going))
