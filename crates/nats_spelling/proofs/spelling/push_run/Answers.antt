-- A run of plain bytes is spelled as it stands, and the byte behind it by its letter.
use Rattle.std.proofs.Common.{ℕ, List, ◌++◌, ap, sym, ◌∙◌, arith}
use Rattle.nats_spelling.proofs.Spelled.{plain_letters, run_letters}
use Rattle.nats_spelling.proofs.spelling.push_run.Goals as goal

pub returns-then-run-bytes-clause-spelled : goal.returns-then-run-bytes-clause-spelled
returns-then-run-bytes-clause-spelled c =
    let run = c.plain_run-run.result in
    c.in_ok-extend_from_slice.ensures.items
    ∙ ap (λ (l : List ℕ). c.args.out.now.items ++ l) (sym (plain_letters run c.args.bytes.now c.plain_run-run.ensures.within c.plain_run-run.ensures.plain))

pub returns-clause-spelled : goal.returns-clause-spelled
returns-clause-spelled c =
    let run = c.plain_run-run.result in
    run_letters run c.args.bytes.now c.args.out.now.items c.extend_from_slice.new.self.items c.push_letter.new.out.items
    (omega (arith, c.plain_run-run.ensures.within, c.if-run-bytes.false)) c.plain_run-run.ensures.plain
    c.in_ok-extend_from_slice.ensures.items c.in_ok-push_letter.ensures
