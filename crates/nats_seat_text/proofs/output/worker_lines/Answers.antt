-- One line more.
use Rattle.std.proofs.Common.{◌+◌, ◌++◌, sym, ◌∙◌}
use Rattle.nats_seat_text.specs.Report.{worker_line}
use Rattle.nats_seat_text.proofs.Lines.{lines_more}
use Rattle.nats_seat_text.proofs.output.worker_lines.Goals as goal

pub loop-done-preserved : goal.loop-done-preserved
loop-done-preserved c =
    c.in_ok-push_worker.ensures
    ∙ ((λ i. c.loop-done.invariant i ++ worker_line (c.loop-done.done + 1) (c.accepted_by.ensures i))
    ∙ sym (lines_more c.loop-done.done c.args.journal.now))
