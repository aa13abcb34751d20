-- The lines of workers, one by one.
use Rattle.std.proofs.Common.{◌≡◌, ℕ, suc, ◌+◌, List, ◌++◌, sym, ◌∙◌, ap, arith}
use Rattle.nats_desk.specs.declared.entry.SeatEntry.{SeatEntry}
use Rattle.nats_seat_workers.specs.Publishing.{accepted_by}
use Rattle.nats_seat_text.specs.Report.{worker_line, worker_lines}

-- one worker more
pub lines_more : (k : ℕ) (journal : List SeatEntry)
    → worker_lines (k + 1) journal ≡ worker_lines k journal ++ worker_line (k + 1) (accepted_by (k + 1 + 1) journal)
lines_more k journal =
    let one : k + 1 ≡ suc k = omega arith in
    let two : k + 1 + 1 ≡ suc (suc k) = omega arith in
    ap (λ n. worker_lines n journal) one
    ∙ (λ i. worker_lines k journal ++ worker_line (sym one i) (accepted_by (sym two i) journal))
