-- What the server says comes to the same however it is cut.
use Rattle.std.proofs.Common.{◌≡◌, refl, ◌∙◌, sym, ap, ℕ, zero, suc, List, ◌++◌, drop, append_assoc}
use Rattle.std.proofs.lemmas.List.{drop-append-le}
use Rattle.nats_message.specs.declared.op.ClientOp.TheVariants as client
use Rattle.nats_commands.specs.Commands.{command_text}
use Rattle.nats_lines.specs.Operations.{message, info_op, error_op, ok_op, ping_op, pong_op, Front, unfinished, got, fault, front}
use Rattle.nats_lines.proofs.Fronts.{front_more, front_fits}
use Rattle.nats_handshake.specs.declared.course.Verdict.TheVariants as verdict
use Rattle.nats_handshake.specs.Course.{Course, course, course_by, behind_out, step_at, taken_by, GoesOnAlike}

-- an answer that stands before those of a course
answered : (pong : List ℕ) (c next whole : Course) → whole ≡ behind_out c.out next
    → ◌≡◌ {A = Course} (record whole { out = pong ++ whole.out }) (behind_out (pong ++ c.out) next)
answered pong c next whole e =
    ap (λ (w : Course). record w { out = pong ++ w.out }) e
    ∙ ap (λ (o : List ℕ). record next { out = o }) (sym (append_assoc pong c.out next.out))

by_front : (n : ℕ) (text more : List ℕ) (f : Front) → front text ≡ f
    → ((rest : List ℕ) → (course n rest).verdict ≡ verdict.Waits → GoesOnAlike (course n rest) more (course n (rest ++ more)))
    → (course_by (step_at f) n text (course n (drop (taken_by (step_at f)) text))).verdict ≡ verdict.Waits
    → GoesOnAlike (course_by (step_at f) n text (course n (drop (taken_by (step_at f)) text))) more (course (suc n) (text ++ more))
unfolding course
by_front n text more unfinished e next waits = refl
by_front n text more (fault k) e next waits = cc
by_front n text more (got (message sid m) k) e next waits = cc
by_front n text more (got (error_op error) k) e next waits = cc
by_front n text more (got pong_op k) e next waits = cc
by_front n text more (got (info_op info) k) e next waits =
    rw (front_more text more (info_op info) k e, drop-append-le k text more (front_fits text (info_op info) k e)) (next (drop k text) waits)
by_front n text more (got ok_op k) e next waits =
    rw (front_more text more ok_op k e, drop-append-le k text more (front_fits text ok_op k e)) (next (drop k text) waits)
by_front n text more (got ping_op k) e next waits =
    rw (front_more text more ping_op k e, drop-append-le k text more (front_fits text ping_op k e))
    (answered (command_text client.Pong) (course n (drop k text)) _ _ (next (drop k text) waits))

-- a text with more behind it
pub course_more : (left : ℕ) (text more : List ℕ) → (course left text).verdict ≡ verdict.Waits
    → GoesOnAlike (course left text) more (course left (text ++ more))
unfolding course
course_more zero text more waits = cc
course_more (suc n) text more waits =
    by_front n text more (front text) refl (λ rest w. course_more n rest more w) waits
