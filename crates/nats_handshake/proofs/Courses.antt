-- What the operations of a text come to, one after another.
use Rattle.std.proofs.Common.{◌≡◌, refl, ◌∙◌, ap, ℕ, zero, suc, ◌+◌, ◌-◌, ◌<◌, List, ◌++◌, drop, arith, append_assoc, append-nil}
use Rattle.std.proofs.lemmas.List.{drop-drop}
use Rattle.nats_names.specs.declared.cause.Cause.TheVariants as cause
use Rattle.nats_message.specs.declared.op.ClientOp.TheVariants as client
use Rattle.nats_commands.specs.Commands.{command_text}
use Rattle.nats_lines.specs.Operations.{front}
use Rattle.nats_handshake.specs.Errors.{Failure}
use Rattle.nats_handshake.specs.declared.course.Course as code
use Rattle.nats_handshake.specs.declared.course.Step.TheVariants as step
use Rattle.nats_handshake.specs.declared.course.Verdict.TheVariants as verdict
use Rattle.nats_handshake.specs.Course.{Course, course, step_at, io, behind_out, course_view}

pub spent : (left : ℕ) (text out : List ℕ) → left ≡ 0
    → ◌≡◌ {A = Course} (record { verdict = verdict.Refuses (io cause.NoPong); left = 0; rest = drop 0 text; out = out }) (behind_out out (course left text))
unfolding course
spent left text out e = rw (e, append-nil out) refl

pub waits : (left : ℕ) (text out : List ℕ) → 0 < left → step_at (front text) ≡ step.Waits
    → ◌≡◌ {A = Course} (record { verdict = verdict.Waits; left = left; rest = drop 0 text; out = out }) (behind_out out (course left text))
unfolding course
waits zero text out h e = absurd (omega arith)
waits (suc n) text out h e = rw (e, append-nil out) refl

pub refuses : (left : ℕ) (text out : List ℕ) (r : Failure) → 0 < left → step_at (front text) ≡ step.Refuses r
    → ◌≡◌ {A = Course} (record { verdict = verdict.Refuses r; left = left; rest = drop 0 text; out = out }) (behind_out out (course left text))
unfolding course
refuses zero text out r h e = absurd (omega arith)
refuses (suc n) text out r h e = rw (e, append-nil out) refl

pub succeeds : (left : ℕ) (text out : List ℕ) (k : ℕ) → 0 < left → step_at (front text) ≡ step.Succeeds k
    → ◌≡◌ {A = Course} (record { verdict = verdict.Succeeds; left = left - 1; rest = drop k text; out = out }) (behind_out out (course left text))
unfolding course
succeeds zero text out k h e = absurd (omega arith)
succeeds (suc n) text out k h e =
    let one : suc n - 1 ≡ n = omega arith in rw (e, append-nil out, one) refl

pub skips : (left : ℕ) (text out : List ℕ) (k : ℕ) (more : code.Course) → 0 < left → step_at (front text) ≡ step.Skips k
    → course_view (drop k text) more ≡ behind_out out (course (left - 1) (drop k text))
    → course_view text (record more { taken = k + more.taken }) ≡ behind_out out (course left text)
unfolding course
skips zero text out k more h e next = absurd (omega arith)
skips (suc n) text out k more h e next =
    let one : suc n - 1 ≡ n = omega arith in
    let all = rw one at next in
    rw (e, ← drop-drop more.taken k text) all

pub answers : (left : ℕ) (text out : List ℕ) (k : ℕ) (more : code.Course) → 0 < left → step_at (front text) ≡ step.Answers k
    → course_view (drop k text) more ≡ behind_out (out ++ command_text client.Pong) (course (left - 1) (drop k text))
    → course_view text (record more { taken = k + more.taken }) ≡ behind_out out (course left text)
unfolding course
answers zero text out k more h e next = absurd (omega arith)
answers (suc n) text out k more h e next =
    let one : suc n - 1 ≡ n = omega arith in
    let all = rw one at next in
    rw (e, ← drop-drop more.taken k text)
    (all ∙ ap (λ (o : List ℕ). record (course n (drop k text)) { out = o }) (append_assoc out (command_text client.Pong) ((course n (drop k text)).out)))
